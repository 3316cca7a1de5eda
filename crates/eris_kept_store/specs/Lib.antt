pub mod KeptStores
