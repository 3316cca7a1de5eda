pub mod RangedRuns
