pub mod ValueFaults
