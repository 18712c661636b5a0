-- What comes next on a chain of definitions, and how a whole chain goes.
use Rattle.std.specs.Prelude.{◌≡◌, ℕ, ◌<◌, true, List, length, Option, slice_index_or}
use Rattle.c_tokens.specs.declared.data_model.DataModel.{DataModel}
use Rattle.c_tokens.specs.Reading.{Macros}
use Rattle.c_macros.specs.Chains.{IsNoWord, Edge, Reaches, Becomes, name_at}
use Rattle.c_macros.specs.Circles.{IsWay, Returns, is_marked}
use Rattle.c_macros.specs.declared.macros.Chain.{Chain}
use Rattle.c_macros.specs.declared.macros.Chain.TheVariants as chains
use Rattle.c_macros.specs.declared.macros.Next.{Next}
use Rattle.c_macros.specs.declared.macros.Next.TheVariants.{Ends, Goes}

-- what the name x is in the end, or a definition whose name it reaches
abbrev pub IsNext : DataModel → Macros → List ℕ → Next → Type 0
IsNext model macros x (Ends kind) = Becomes model macros x kind
IsNext model macros x (Goes place) = (place < length macros.defined) × IsNoWord (name_at macros.defined place) × Reaches macros.defined x (name_at macros.defined place)

-- what the name x is in the end, or the definition whose name replaces it
abbrev pub IsStep : DataModel → Macros → List ℕ → Next → Type 0
IsStep model macros x (Ends kind) = Becomes model macros x kind
IsStep model macros x (Goes place) = (place < length macros.defined) × IsNoWord (name_at macros.defined place) × Edge macros.defined x (name_at macros.defined place)

-- how the chain from the definition at first goes
abbrev pub IsChain : DataModel → Macros → List (Option ℕ) → ℕ → Chain → Type 0
IsChain model macros marks first (chains.Ends kind) = Becomes model macros (name_at macros.defined first) kind
IsChain model macros marks first (chains.Joins over at) = IsWay macros.defined first over.keys at × (is_marked marks at ≡ true)
IsChain model macros marks first (chains.Circles over at from) =
    IsWay macros.defined first over.keys at × (from < length over.keys) × (slice_index_or over.keys from 0 ≡ at)
    × Returns macros.defined (name_at macros.defined at) (name_at macros.defined at)
