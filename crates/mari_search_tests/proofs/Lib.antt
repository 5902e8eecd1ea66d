pub mod ExampleSearch
