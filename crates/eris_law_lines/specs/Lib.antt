pub mod EventScripts
