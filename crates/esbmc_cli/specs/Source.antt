-- What a told folder holds under a name.
use Rattle.std.specs.Prelude.{◌≡◌, ℕ, List, ◌++◌, Some}
use Rattle.std.specs.Option.{ForSome}
use Rattle.std.specs.declared.option.Option.{Option}
use Rattle.std.specs.FinMap.{get}
use Rattle.kv_port.specs.Folder.{Folder}

-- where the folder is told, the name holds these bytes
abbrev pub Holds : Option Folder → List ℕ → List ℕ → Type 0
Holds told name source = ForSome told (λ m. get m name ≡ Some source)

-- where the folder is told, the name holds bytes that have P
abbrev pub HasFile : Option Folder → List ℕ → (List ℕ → Type 0) → Type 0
HasFile told name P = ForSome told (λ m. (source : List ℕ) × (get m name ≡ Some source) × P source)

-- where it is told what was left at first, these bytes were read of it and the rest is left now
abbrev pub HasLeft : Option (List ℕ) → List ℕ → Option (List ℕ) → Type 0
HasLeft first bytes now = ForSome first (λ left. (rest : List ℕ) × (now ≡ Some rest) × (left ≡ bytes ++ rest))
