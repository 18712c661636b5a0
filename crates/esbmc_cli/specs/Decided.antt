-- What is found of a named file.
use Rattle.std.specs.Prelude.{ℕ, List, []}
use Rattle.std.specs.declared.option.Option.{Option}
use Rattle.kv_port.specs.Folder.{Folder, Lacks}
use Rattle.c_rules.specs.declared.checks.CheckKind.{CheckKind}
use Rattle.c_straight_model.specs.declared.program.Program.{Program}
use Rattle.c_straight_model.specs.Machine.{Breaks, Safe}
use Rattle.c_source.specs.Sources.{SpellsStraight, Refuses}
use Rattle.esbmc_cli.specs.declared.decide.Decided.{Decided}
use Rattle.esbmc_cli.specs.declared.decide.Decided.TheVariants.{Successful, Failed, Refused, Missing, ReadFault, NoMemory}
use Rattle.esbmc_cli.specs.Source.{Holds, HasFile}

-- the bytes spell a straight program of which no inputs break a check
abbrev pub SpellsSafe : List ℕ → Type 0
SpellsSafe source = (program : Program) × SpellsStraight source program × Safe program

-- the bytes spell a straight program that breaks this check at this line
abbrev pub SpellsBroken : CheckKind → ℕ → List ℕ → Type 0
SpellsBroken check line source = (program : Program) × SpellsStraight source program × Breaks program [] check line

-- what is found of these bytes
abbrev pub IsRightOf : List ℕ → Decided → Type 0
IsRightOf source Successful = SpellsSafe source
IsRightOf source (Failed check line) = SpellsBroken check line source
IsRightOf source (Refused refusal) = Refuses source refusal
IsRightOf source Missing = ⊥
IsRightOf source ReadFault = ⊥
IsRightOf source NoMemory = Unit {0}

-- what is found of the file of this name, where a fault of the folder is this
abbrev pub IsRight : Option Folder → List ℕ → Type 0 → Decided → Type 0
IsRight told name fault Successful = (source : List ℕ) × Holds told name source × SpellsSafe source
IsRight told name fault (Failed check line) = (source : List ℕ) × Holds told name source × SpellsBroken check line source
IsRight told name fault (Refused refusal) = HasFile told name (λ source. Refuses source refusal)
IsRight told name fault Missing = Lacks told name
IsRight told name fault ReadFault = fault
IsRight told name fault NoMemory = Unit {0}

-- what may be found of a file that is refused, and of one that spells a straight program
abbrev pub MayRefuse : Decided → Type 0
MayRefuse (Refused refusal) = Unit {0}
MayRefuse ReadFault = Unit {0}
MayRefuse NoMemory = Unit {0}
MayRefuse _ = ⊥

abbrev pub MayVerify : Decided → Type 0
MayVerify Successful = Unit {0}
MayVerify (Failed check line) = Unit {0}
MayVerify ReadFault = Unit {0}
MayVerify NoMemory = Unit {0}
MayVerify _ = ⊥
