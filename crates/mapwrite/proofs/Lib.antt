pub mod AsFetched
