-- Laws of the curves and their tables, of an end's sum and trip, of measured sets in a row, and of what a planner asks.
pub mod CurveLaws
pub mod TimerLaws
pub mod RowLaws
pub mod PlanningLaws
