-- What becomes of what a run keeps for leaves.

-- the leaves were asked in turn, or none was, and each step is one that a leaf takes
pub data AreSteps {C : Type 0} (step : C → C → Type 0) : C → C → Type 0 where
  no_step : {c : C} → AreSteps step c c
  then_step : {before between after : C} → AreSteps step before between → step between after
      → AreSteps step before after
