-- What calls and sizes answer is no place.
use Rattle.std.proofs.Common.{ℕ, Bool, true, false, ◌&&◌, List, [], ◌∷◌, Option, Some, None, if◌then◌else◌}
use Rattle.std.specs.Prelude.{slice_get}
use Rattle.c_kinds.specs.declared.types.CType.{CType}
use Rattle.c_kinds.specs.declared.answer.Answer.{Answer}
use Rattle.c_kinds.specs.declared.answer.Answer.TheVariants.{Breaks}
use Rattle.c_kinds.specs.Layouts.{Layout, size_in_bytes}
use Rattle.c_kinds.specs.Operands.{size_answer, sizeof_answer, sizeof_type_answer}
use Rattle.c_kinds.specs.Values.{and_then, part, used}
use Rattle.c_rules.specs.declared.names.Meaning.{Meaning}
use Rattle.c_rules.specs.declared.names.Meaning.TheVariants as meaning
use Rattle.c_rules.specs.declared.names.Names.{Names}
use Rattle.c_rules.specs.Typing.{Given, call_by, called_result, is_assert_fail, is_function_meaning, known_result, layout_of, name_by, named_call, numbered_result, sizeof_named}
use Rattle.c_nodes.specs.declared.arguments.Argument.{Argument}
use Rattle.c_nodes.specs.Arguments.{after_arguments}
use Rattle.c_operators.specs.Told.{GivesItsCells}
use Rattle.c_operators.proofs.Rooms.{part_room, then_room, used_room, varied}

result_room : (l : Layout) (name at : ℕ) (t : Option CType) → GivesItsCells l (called_result name at t)
result_room l name at None = tt
result_room l name at (Some t) = varied l t name at

call_by_room : (l : Layout) (names : Names) (u : Bool) (name at : ℕ) (m : Option Meaning) → GivesItsCells l (call_by names u name at m)
call_by_room l names u name at (Some (meaning.Function n)) = result_room l name at (numbered_result names (slice_get names.functions n))
call_by_room l names u name at (Some (meaning.Known function)) = result_room l name at (Some (known_result function))
call_by_room l names u name at m = then_room l (name_by names u name m) (λ _. Breaks 12 at) (λ _. tt)

either_room : (l : Layout) (b : Bool) (x y : Answer) → GivesItsCells l x → GivesItsCells l y → GivesItsCells l (if b then x else y)
either_room l true x y h k = h
either_room l false x y h k = k

after_room : (l : Layout) (texts : Bool) (xs : List Argument) (a : Answer) → GivesItsCells l a → GivesItsCells l (after_arguments l texts xs a)
after_room l texts [] a h = h
after_room l texts (x ∷ xs) a h =
    let rest = after_arguments l texts xs a in
    either_room l (texts && x.is_text) rest (used l x.answer (λ _. rest)) (after_room l texts xs a h)
    (used_room l x.answer (λ _. rest) (λ _. after_room l texts xs a h))

pub call_room : (g : Given) (u : Bool) (xs : List Argument) (name at : ℕ) (m : Option Meaning)
    → GivesItsCells (layout_of g) (named_call g u (λ texts rest. after_arguments (layout_of g) texts xs rest) name at m)
call_room g u xs name at m =
    let l = layout_of g in
    let texts = is_assert_fail g.names m in
    let called = after_arguments l texts xs (call_by g.names u name at m) in
    let h = after_room l texts xs (call_by g.names u name at m) (call_by_room l g.names u name at m) in
    either_room l (is_function_meaning m) called (and_then (name_by g.names u name m) (λ _. called)) h (then_room l (name_by g.names u name m) (λ _. called) (λ _. h))

size_room : (l : Layout) (at ends_at : ℕ) (n : Option ℕ) → GivesItsCells l (size_answer l at ends_at n)
size_room l at ends_at None = tt
size_room l at ends_at (Some n) = tt

type_size_room : (l : Layout) (at : ℕ) (star : Option ℕ) (t : CType) → GivesItsCells l (sizeof_type_answer l at star t)
type_size_room l at (Some star) t = tt
type_size_room l at None t = size_room l at at (size_in_bytes l.model t)

pub named_size_room : (l : Layout) (at : ℕ) (m : Option Meaning) → GivesItsCells l (sizeof_named l at m)
named_size_room l at (Some (meaning.Type (Some t) star)) = type_size_room l at star t
named_size_room l at (Some (meaning.Type None star)) = tt
named_size_room l at _ = tt

pub sizeof_room : (l : Layout) (at : ℕ) (x : Answer) → GivesItsCells l (part x (λ v. sizeof_answer l at v))
sizeof_room l at x = part_room l x (λ v. sizeof_answer l at v) (λ v. size_room l at v.ends_at (size_in_bytes l.model v.ctype))
