-- What each status claims.
use Rattle.std.specs.Prelude.{◌≡◌, ◌≢◌, ◌⊎◌, ℕ, ◌<◌, ◌≤◌, Bool, false, ◌==◌, if◌then◌else◌, List, [], ◌∷◌, ◌++◌, length, None, Some, IsSome}
use Rattle.std.specs.declared.option.Option.{Option}
use Rattle.std.specs.Io.KnownBytes.{Appends}
use Rattle.kv_port.specs.Causes.{Rose}
use Rattle.kv_port.specs.Folder.{Folder, Lacks}
use Rattle.c_rules.specs.declared.checks.CheckKind.{CheckKind}
use Rattle.esbmc_cli.specs.declared.outcome.Outcome.{Outcome}
use Rattle.esbmc_cli.specs.Decided.{SpellsSafe, SpellsBroken}
use Rattle.esbmc_cli.specs.Source.{Holds, HasFile}
use Rattle.c_source.specs.declared.refusal.Refusal.{Refusal}
use Rattle.c_source.specs.Sources.{Refuses}
use Rattle.esbmc_cli.specs.Texts.{successful_text, failed_text, usage_text, refused_text, read_fault_text, missing_text}

-- ---- the words

abbrev pub begins_with_dash : List ℕ → Bool
begins_with_dash [] = false
begins_with_dash (c ∷ cs) = c == 45

-- the file that the words name: one word that doesn't begin with a dash
abbrev pub file_of : List (List ℕ) → Option (List ℕ)
file_of [] = None
file_of (word ∷ []) = if begins_with_dash word then None else Some word
file_of (word ∷ other ∷ words) = None

-- ---- the output

-- told bytes have grown by the text, with status 7 by a proper prefix of it
pub record Prints (status : ℕ) (old new : Option (List ℕ)) (text : List ℕ) : Type 0 where
  pub written : List ℕ
  pub missing : List ℕ
  pub grown : Appends old new written
  pub parts : written ++ missing ≡ text
  pub whole : status ≢ 7 → missing ≡ []
  pub cut : status ≡ 7 → 0 < length missing

-- one of these numbers
abbrev pub OneOf : List ℕ → ℕ → Type 0
OneOf [] n = ⊥
OneOf (m ∷ []) n = n ≡ m
OneOf (m ∷ k ∷ ms) n = (n ≡ m) ⊎ OneOf (k ∷ ms) n

-- the status is the meant one, or 7 after a write fault; where nothing is written it is the meant one
pub record HasStatus (before now : ℕ) (outcome : Outcome) : Type 0 where
  pub later : before ≤ now
  pub status : (outcome.status ≡ outcome.meant) ⊎ (outcome.status ≡ 7)
  pub fault : outcome.status ≡ 7 → Rose before now
  pub silent : outcome.meant ≡ 8 → outcome.status ≡ 8

-- ---- the statuses, of the named file, of the folder where it is told, and of what is printed

-- 0: where the folder is told, the file spells a program of which no inputs break a check
pub record IsSuccessful (file : Option (List ℕ)) (told : Option Folder) (prints : List ℕ → Type 0) : Type 0 where
  pub name : List ℕ
  pub source : List ℕ
  pub named : file ≡ Some name
  pub holds : Holds told name source
  pub safe : SpellsSafe source
  pub text : prints successful_text

-- 1: where the folder is told, the file spells a program that breaks the printed check at the printed line
pub record IsFailed (file : Option (List ℕ)) (told : Option Folder) (prints : List ℕ → Type 0) : Type 0 where
  pub name : List ℕ
  pub source : List ℕ
  pub check : CheckKind
  pub line : ℕ
  pub named : file ≡ Some name
  pub holds : Holds told name source
  pub broken : SpellsBroken check line source
  pub text : prints (failed_text check line)

-- 4: the words name no file
pub record IsUsage (file : Option (List ℕ)) (prints : List ℕ → Type 0) : Type 0 where
  pub named : file ≡ None
  pub text : prints usage_text

-- 5: where the folder is told, the named file is refused for the printed cause
pub record IsRefused (file : Option (List ℕ)) (told : Option Folder) (prints : List ℕ → Type 0) : Type 0 where
  pub name : List ℕ
  pub refusal : Refusal
  pub named : file ≡ Some name
  pub refused : HasFile told name (λ source. Refuses source refusal)
  pub text : prints (refused_text refusal)

-- 6: a file is named, and the count of the folder's faults rose
pub record IsReadFault (file : Option (List ℕ)) (fault : Type 0) (prints : List ℕ → Type 0) : Type 0 where
  pub named : IsSome file
  pub rose : fault
  pub text : prints read_fault_text

-- 12: a file is named that a told folder lacks
pub record IsMissing (file : Option (List ℕ)) (told : Option Folder) (prints : List ℕ → Type 0) : Type 0 where
  pub name : List ℕ
  pub named : file ≡ Some name
  pub lacks : Lacks told name
  pub text : prints missing_text
