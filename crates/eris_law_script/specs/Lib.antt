pub mod UndisturbedScripts
