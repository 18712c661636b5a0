-- A file that was opened holds what is left of it at first.
use Rattle.std.proofs.Common.{◌≡◌, ℕ, List, Option, None, Some, IsSome, refl, sym}
use Rattle.std.specs.Option.{ForSome}
use Rattle.std.specs.FinMap.{get}
use Rattle.kv_port.specs.Folder.{Folder, Opens}
use Rattle.esbmc_cli.specs.Source.{HasFile}

from_left : (left found : Option (List ℕ)) (P : List ℕ → Type 0) → left ≡ found → IsSome left → ForSome left P → (source : List ℕ) × (found ≡ Some source) × P source
from_left None found P e some h = absurd (cc)
from_left (Some l) found P e some h = (l, sym e, h l refl)

pub any_opened : (told : Option Folder) (name : List ℕ) (left : Option (List ℕ)) (P : List ℕ → Type 0) → Opens told name left → ForSome left P → HasFile told name P
any_opened told name left P opens h = λ m e. from_left left (get m name) P (opens.content m e) (opens.found m e) h
