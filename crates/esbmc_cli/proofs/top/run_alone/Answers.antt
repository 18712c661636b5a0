use Rattle.std.proofs.Common.{◌≡◌, ap, ◌∙◌}
use Rattle.std.specs.FinMap.{get}
use Rattle.esbmc_cli.proofs.top.run_alone.Goals as goal

-- the file that was refused spells no straight program
pub returns-in-Ok-refused-clause-is_verified : goal.returns-in-Ok-refused-clause-is_verified
returns-in-Ok-refused-clause-is_verified g c = λ m name source program e f h early.
    let named = c.in-Some.ensures in
    let same : c.in-Some.name.now ≡ name = cc in
    absurd (c.in-Refused.ensures.is_verified m source program f (ap (λ n. get m n) same ∙ h) early)
