pub mod StartTables
