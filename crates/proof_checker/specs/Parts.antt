-- What the checker's working parts keep between its calls.
use Rattle.std.specs.Prelude.{◌≡◌, ◌<◌, [], length, true}
use Rattle.sat_clause.specs.Propagation.{Conflict}
use Rattle.sat_engine.specs.Look.{AreInRange}
use Rattle.proof_checker.specs.Base.{IsBase}
use Rattle.proof_checker.specs.declared.parts.Parts.{Parts}

pub record IsReady (p : Parts) : Type 0 where
  pub few : length p.store < 4294967296
  pub range : AreInRange p.store (length p.trail.truth.items)
  pub base : IsBase p.store [] p.trail.steps.items
  pub refuted : p.is_refuted ≡ true → Conflict p.store []
