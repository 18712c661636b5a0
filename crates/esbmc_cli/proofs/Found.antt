-- What may be found of a told file.
use Rattle.std.proofs.Common.{◌≡◌, ℕ, List, [], Some, sym, subst, ◌∙◌}
use Rattle.std.specs.declared.option.Option.{Option}
use Rattle.std.specs.FinMap.{get}
use Rattle.kv_port.specs.Folder.{Folder, Lacks}
use Rattle.c_straight_model.specs.declared.program.Program.{Program}
use Rattle.c_source.specs.declared.refusal.Refusal.{Refusal}
use Rattle.c_source.specs.Sources.{SpellsStraight, Refuses, SpellsOrRefuses}
use Rattle.esbmc_cli.specs.declared.decide.Decided.{Decided}
use Rattle.esbmc_cli.specs.declared.decide.Decided.TheVariants.{Successful, Failed, Refused, Missing, ReadFault, NoMemory}
use Rattle.esbmc_cli.specs.Source.{Holds, HasFile}
use Rattle.esbmc_cli.specs.Decided.{IsRight, MayRefuse, MayVerify}

same_source : (told : Option Folder) (m : Folder) (name source other : List ℕ) → told ≡ Some m → get m name ≡ Some source → Holds told name other → source ≡ other
same_source told m name source other e f h = let g = h m e in cc

spelled_refused : SpellsOrRefuses → (told : Option Folder) (m : Folder) (name source other : List ℕ) (program : Program) (refusal : Refusal)
    → told ≡ Some m → get m name ≡ Some source → Holds told name other → SpellsStraight other program → Refuses source refusal → ⊥
spelled_refused law told m name source other program refusal e f h early refuses =
    let P : List ℕ → Type 0 = λ s. Refuses s refusal in
    law other program refusal early (subst P (same_source told m name source other e f h) refuses)

pub refused_is_refused : SpellsOrRefuses → (told : Option Folder) (m : Folder) (name source : List ℕ) (refusal : Refusal) (fault : Type 0) (found : Decided)
    → IsRight told name fault found → told ≡ Some m → get m name ≡ Some source → Refuses source refusal → MayRefuse found
refused_is_refused law told m name source refusal fault Successful right e f refuses = spelled_refused law told m name source right.0 right.2.0 refusal e f right.1 right.2.1 refuses
refused_is_refused law told m name source refusal fault (Failed check line) right e f refuses = spelled_refused law told m name source right.0 right.2.0 refusal e f right.1 right.2.1 refuses
refused_is_refused law told m name source refusal fault (Refused other) right e f refuses = tt
refused_is_refused law told m name source refusal fault Missing right e f refuses = let g = right m e in cc
refused_is_refused law told m name source refusal fault ReadFault right e f refuses = tt
refused_is_refused law told m name source refusal fault NoMemory right e f refuses = tt

pub early_is_verified : SpellsOrRefuses → (told : Option Folder) (m : Folder) (name source : List ℕ) (program : Program) (fault : Type 0) (found : Decided)
    → IsRight told name fault found → told ≡ Some m → get m name ≡ Some source → SpellsStraight source program → MayVerify found
early_is_verified law told m name source program fault Successful right e f early = tt
early_is_verified law told m name source program fault (Failed check line) right e f early = tt
early_is_verified law told m name source program fault (Refused refusal) right e f early =
    let has = right m e in
    let P : List ℕ → Type 0 = λ s. SpellsStraight s program in
    let same : source ≡ has.0 = let g = has.1 in cc in
    law has.0 program refusal (subst P same early) has.2
early_is_verified law told m name source program fault Missing right e f early = let g = right m e in cc
early_is_verified law told m name source program fault ReadFault right e f early = tt
early_is_verified law told m name source program fault NoMemory right e f early = tt
