-- In an accepted text each name tells what it stands for.
use Rattle.std.proofs.Common.{◌≡◌, ℕ, zero, suc, Bool, true, false, not, cond, List, [], ◌∷◌, ◌++◌, Option, Some, None, refl, slice_get}
use Rattle.std.specs.Str.{bytes_eq}
use Rattle.c_tokens.specs.declared.data_model.DataModel.{DataModel}
use Rattle.c_tree.specs.declared.declaration.Tree.{Tree}
use Rattle.c_kinds.specs.declared.types.Member.{Member}
use Rattle.c_kinds.specs.declared.types.Struct.{Struct}
use Rattle.c_kinds.specs.Layouts.{flat, members_by, members_of, member_in}
use Rattle.c_rules.specs.declared.names.Meaning.{Meaning}
use Rattle.c_rules.specs.declared.names.Names.{Names}
use Rattle.c_rules.specs.Broken.{pair_if, of_each}
use Rattle.c_rules.specs.Calls.{is_some}
use Rattle.c_rules.specs.Typing.{meaning_at}
use Rattle.c_rules.specs.Told.{tells, untold_meaning, untold_member, untold_struct, untold, end_of}
use Rattle.c_rules.specs.Accepted.{Accepted}
use Rattle.c_rules.specs.Texts.{names_of}
use Rattle.c_rules.proofs.Empty.{first_empty, second_empty}

abbrev pub member_tells : Option Member → Bool
member_tells None = true
member_tells (Some m) = is_some m.ctype

-- no name stands for what has no type
pub record Tell (names : Names) : Type 0 where
  pub of_tokens : (at : ℕ) → tells names (meaning_at names at) ≡ true
  pub of_members : (n : ℕ) (name : List ℕ) → member_tells (member_in (members_of names.structs n) name) ≡ true

holds : (b : Bool) (at rule : ℕ) → pair_if (not b) at rule ≡ [] → b ≡ true
holds true at rule h = refl
holds false at rule h = cc

each_tells : (end : ℕ) (names : Names) (ms : List (Option Meaning)) (at : ℕ) → of_each (untold_meaning end names) ms ≡ [] → tells names (flat (slice_get ms at)) ≡ true
each_tells end names [] at h = refl
each_tells end names (m ∷ ms) zero h = holds (tells names m) end 24 (first_empty _ _ h)
each_tells end names (m ∷ ms) (suc at) h = each_tells end names ms at (second_empty (untold_meaning end names m) _ h)

member_typed : (end : ℕ) (ms : List Member) (name : List ℕ) → of_each (untold_member end) ms ≡ [] → member_tells (member_in ms name) ≡ true
member_typed end [] name h = refl
member_typed end (m ∷ ms) name h = one (bytes_eq m.name name) (member_typed end ms name (second_empty (untold_member end m) _ h))
  where
    one : (b : Bool) → member_tells (member_in ms name) ≡ true → member_tells (cond b (Some m) (member_in ms name)) ≡ true
    one true rest = holds (is_some m.ctype) end 24 (first_empty _ _ h)
    one false rest = rest

struct_typed : (end : ℕ) (structs : List Struct) (n : ℕ) (name : List ℕ) → of_each (untold_struct end) structs ≡ [] → member_tells (member_in (members_by (slice_get structs n)) name) ≡ true
struct_typed end [] n name h = refl
struct_typed end (s ∷ rest) zero name h = member_typed end s.members name (first_empty _ _ h)
struct_typed end (s ∷ rest) (suc n) name h = struct_typed end rest n name (second_empty (untold_struct end s) _ h)

tell : (end : ℕ) (names : Names) → untold end names ≡ [] → Tell names
tell end names h = record {
  of_tokens = λ at. each_tells end names names.meanings at (first_empty _ _ h);
  of_members = λ n name. struct_typed end names.structs n name (second_empty (of_each (untold_meaning end names) names.meanings) _ h);
}

pub accepted_tell : (model : DataModel) (tree : Tree) → Accepted model tree → Tell (names_of model tree)
accepted_tell model tree h = tell (end_of tree) (names_of model tree) (second_empty _ _ h)
