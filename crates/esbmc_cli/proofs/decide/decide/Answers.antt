use Rattle.esbmc_cli.proofs.Found.{early_is_verified}
use Rattle.esbmc_cli.proofs.decide.decide.Goals as goal

pub returns-clause-is_verified : goal.returns-clause-is_verified
returns-clause-is_verified g c = λ m source program e f early.
    early_is_verified c.spells_or_refuses.ensures (g.F.Files.told c.args.files.now) m c.args.name.now source program _ c.decide_file.result c.decide_file.ensures.right e f early
