-- The rules of unsequenced side effects (6.5p2) and of recursion: what functions do and whom they call, over a whole text.
-- Sections are those of ISO/IEC 9899:2011.
use Rattle.std.specs.Prelude.{ℕ, zero, suc, nat_eq, Bool, false, ◌||◌, if◌then◌else◌, List, [], ◌∷◌, ◌++◌, length, Option, Some, None, slice_get}
use Rattle.std.specs.List.{list_any, flat_map}
use Rattle.c_tree.specs.declared.expression.Expression.{Expression}
use Rattle.c_tree.specs.declared.declaration.Initialiser.{Initialiser}
use Rattle.c_tree.specs.declared.declaration.Initialiser.TheOpen.{Initialiser-F}
use Rattle.c_tree.specs.declared.declaration.Initialiser.TheOpen.{Initialiser-F as i}
use Rattle.c_tree.specs.declared.declaration.Initialiser.TheFolds.{para-Initialiser}
use Rattle.c_tree.specs.declared.declaration.Declared.{Declared}
use Rattle.c_tree.specs.declared.declaration.Declared.TheVariants as declared
use Rattle.c_tree.specs.declared.declaration.Declaration.{Declaration}
use Rattle.c_tree.specs.declared.declaration.External.{External}
use Rattle.c_tree.specs.declared.declaration.External.TheVariants as external
use Rattle.c_tree.specs.declared.statement.Statement.{Statement}
use Rattle.c_tree.specs.declared.statement.Branch.{Branch}
use Rattle.c_tree.specs.declared.statement.BlockItem.{BlockItem}
use Rattle.c_tree.specs.declared.statement.BlockItem.TheOpen.{Statement-F, BlockItem-F, Branch-F}
use Rattle.c_tree.specs.declared.statement.BlockItem.TheOpen.{Statement-F as t, BlockItem-F as b}
use Rattle.c_tree.specs.declared.statement.BlockItem.TheFolds.{para-BlockItem}
use Rattle.c_tree.specs.declared.statement.ForStart.{ForStart}
use Rattle.c_tree.specs.declared.statement.ForStart.TheVariants as start
use Rattle.c_rules.specs.declared.names.Meaning.{Meaning}
use Rattle.c_rules.specs.declared.names.Meaning.TheVariants as meaning
use Rattle.c_rules.specs.declared.names.Object.{Object}
use Rattle.c_rules.specs.declared.names.Pair.{Pair}
use Rattle.c_rules.specs.declared.names.Names.{Names}
use Rattle.c_rules.specs.Broken.{pair_if}
use Rattle.c_rules.specs.Typing.{Given, meaning_at}
use Rattle.c_rules.specs.Initialisers.{name_at}
use Rattle.c_rules.specs.Effects.{Target, Object as TheObject, Pointed, Access, Reads, Writes, Calls, Question, Between, Among, Called, Asked, nothing_asked, also, asked_all, accesses, asked_of_value, effect_of, asked_in_specifier, asked_in_declarator}

-- ---- the full expressions of statements and declarations (6.8p4)

-- what they ask, and what they access
pub record Done : Type 0 where
  pub asked : Asked
  pub accesses : List Access

abbrev pub nothing_done : Done
nothing_done = record { asked = nothing_asked; accesses = [] }

abbrev pub and_also : Done → Done → Done
and_also x y = record { asked = also x.asked y.asked; accesses = x.accesses ++ y.accesses }

abbrev pub done_all : {A : Type 0} → (A → Done) → List A → Done
done_all f [] = nothing_done
done_all f (x ∷ xs) = and_also (f x) (done_all f xs)

abbrev pub only_asked : Asked → Done
only_asked x = record { asked = x; accesses = [] }

abbrev pub full_expression : Given → Expression → Done
full_expression g x = record { asked = asked_of_value (effect_of g x); accesses = accesses (effect_of g x) }

abbrev pub optional_expression : Given → Option Expression → Done
optional_expression g None = nothing_done
optional_expression g (Some x) = full_expression g x

-- the parts in braces aren't asked against each other
abbrev pub initialiser_done : {I : Type 0} → Given → (I → Done) → Initialiser-F I → Done
initialiser_done g w (i.Value x at) = full_expression g x
initialiser_done g w (i.Braces parts at) = done_all w parts

unfoldable pub done_in_initialiser : Given → Initialiser → Done
done_in_initialiser g = para-Initialiser Done (initialiser_done {I = Initialiser × Done} g (λ x. x.1))

abbrev pub declared_done : Given → Declared → Done
declared_done g (declared.Plain inside) = only_asked (asked_in_declarator g inside)
declared_done g (declared.Initialised inside value at) = and_also (only_asked (asked_in_declarator g inside)) (done_in_initialiser g value)

abbrev pub declaration_done : Given → Declaration → Done
declaration_done g x = and_also (only_asked (asked_all (asked_in_specifier g) x.specifiers)) (done_all (declared_done g) x.names)

abbrev pub start_done : Given → ForStart → Done
start_done g start.Nothing = nothing_done
start_done g (start.Value x) = full_expression g x
start_done g (start.Declared x) = declaration_done g x

module _ {B X R : Type 0} where
  abbrev pub branch_done : Given → (X → Done) → Branch-F B X R → Done
  branch_done g w x = and_also (full_expression g x.test) (w x.body)

  abbrev pub item_done : Given → (X → Done) → BlockItem-F B X R → Done
  item_done g w (b.Declared x) = declaration_done g x
  item_done g w (b.Run x) = w x

  abbrev pub statement_done : Given → (B → Done) → (X → Done) → (R → Done) → Statement-F B X R → Done
  statement_done g item w branch (t.Block xs at) = done_all item xs
  statement_done g item w branch (t.Empty at) = nothing_done
  statement_done g item w branch (t.Value x at) = full_expression g x
  statement_done g item w branch (t.Label name body at) = w body
  statement_done g item w branch (t.Case x body at) = and_also (full_expression g x) (w body)
  statement_done g item w branch (t.Default body at) = w body
  statement_done g item w branch (t.If branches) = done_all branch branches
  statement_done g item w branch (t.IfElse branches otherwise) = and_also (done_all branch branches) (w otherwise)
  statement_done g item w branch (t.Switch x body at) = and_also (full_expression g x) (w body)
  statement_done g item w branch (t.While test body at) = and_also (full_expression g test) (w body)
  statement_done g item w branch (t.Do body test at) = and_also (w body) (full_expression g test)
  statement_done g item w branch (t.For first test step body at) =
      and_also (start_done g first) (and_also (optional_expression g test) (and_also (optional_expression g step) (w body)))
  statement_done g item w branch (t.Break at) = nothing_done
  statement_done g item w branch (t.Continue at) = nothing_done
  statement_done g item w branch (t.Return x at) = optional_expression g x

unfoldable pub done_in_item : Given → BlockItem → Done
done_in_item g = para-BlockItem Done Done Done
    (item_done {B = BlockItem × Done} {X = Statement × Done} {R = Branch × Done} g (λ x. x.1))
    (statement_done {B = BlockItem × Done} {X = Statement × Done} {R = Branch × Done} g (λ x. x.1) (λ x. x.1) (λ x. x.1))
    (branch_done {B = BlockItem × Done} {X = Statement × Done} {R = Branch × Done} g (λ x. x.1))

-- ---- whole texts: what is done, and in which function

pub record DoneIn : Type 0 where
  pub function : Option ℕ
  pub done : Done

abbrev pub function_meant : Option Meaning → Option ℕ
function_meant (Some (meaning.Function n)) = Some n
function_meant _ = None

abbrev pub done_in_external : Given → External → DoneIn
done_in_external g (external.Empty at) = record { function = None; done = nothing_done }
done_in_external g (external.Declared x) = record { function = None; done = declaration_done g x }
done_in_external g (external.Defined specifiers inside body at) = record {
  function = function_meant (meaning_at g.names (name_at inside));
  done = and_also (only_asked (also (asked_all (asked_in_specifier g) specifiers) (asked_in_declarator g inside))) (done_all (done_in_item g) body);
}

abbrev pub done_in_text : Given → List External → List DoneIn
done_in_text g [] = []
done_in_text g (x ∷ xs) = done_in_external g x ∷ done_in_text g xs

-- ---- what functions may access

-- what the text's names are, what it does, and the objects that pointers may lead to
pub record Text : Type 0 where
  pub names : Names
  pub done : List DoneIn
  pub taken : List ℕ

abbrev pub taken_in : List DoneIn → List ℕ
taken_in xs = flat_map (λ x. x.done.asked.taken) xs

abbrev pub is_number : ℕ → Option ℕ → Bool
is_number n None = false
is_number n (Some m) = nat_eq m n

-- what a function's own expressions access, and the calls in its body
abbrev pub own_accesses : List DoneIn → ℕ → List Access
own_accesses xs f = flat_map (λ x. if is_number f x.function then x.done.accesses else []) xs

abbrev pub own_calls : List DoneIn → ℕ → List Called
own_calls xs f = flat_map (λ x. if is_number f x.function then x.done.asked.calls else []) xs

-- the functions that are reached in at most k steps, where `next` gives those of one step
unfoldable pub reached : ℕ → (ℕ → List ℕ) → ℕ → List ℕ
reached zero next f = f ∷ []
reached (suc k) next f = f ∷ flat_map (reached k next) (next f)

abbrev pub callees : List Called → List ℕ
callees xs = flat_map (λ x. x.callee ∷ []) xs

-- the functions that an expression enters: those that it calls where it is evaluated
abbrev pub entered : List Access → List ℕ
entered [] = []
entered (Calls f ∷ xs) = f ∷ entered xs
entered (_ ∷ xs) = entered xs

-- the functions that have bodies
abbrev pub with_body : Option ℕ → List ℕ
with_body None = []
with_body (Some f) = f ∷ []

abbrev pub with_bodies : List DoneIn → List ℕ
with_bodies xs = flat_map (λ x. with_body x.function) xs

-- a path on which each function has a body and none comes twice is no longer than there are such functions
abbrev pub entered_from : Text → ℕ → List ℕ
entered_from x f = reached (length (with_bodies x.done)) (λ n. entered (own_accesses x.done n)) f

abbrev pub is_static : Option Object → Bool
is_static None = false
is_static (Some o) = o.is_static

-- the static objects that are accessed so, and what pointers lead to
abbrev pub shared : Text → Target → List ℕ
shared x (TheObject n) = if is_static (slice_get x.names.objects n) then n ∷ [] else []
shared x Pointed = x.taken

abbrev pub objects_of : Text → Target → List ℕ
objects_of x (TheObject n) = n ∷ []
objects_of x Pointed = x.taken

-- the objects that are read or written; `objects` are those of a target, `inside` those that a function accesses
abbrev pub read_in : (Target → List ℕ) → (ℕ → List ℕ) → List Access → List ℕ
read_in objects inside [] = []
read_in objects inside (Reads t ∷ xs) = objects t ++ read_in objects inside xs
read_in objects inside (Calls f ∷ xs) = inside f ++ read_in objects inside xs
read_in objects inside (Writes t ∷ xs) = read_in objects inside xs

abbrev pub written_in : (Target → List ℕ) → (ℕ → List ℕ) → List Access → List ℕ
written_in objects inside [] = []
written_in objects inside (Writes t ∷ xs) = objects t ++ written_in objects inside xs
written_in objects inside (Calls f ∷ xs) = inside f ++ written_in objects inside xs
written_in objects inside (Reads t ∷ xs) = written_in objects inside xs

-- a function with those that are entered from it: only static objects and what pointers lead to count
abbrev pub function_reads : Text → ℕ → List ℕ
function_reads x f = flat_map (λ n. read_in (shared x) (λ _. []) (own_accesses x.done n)) (entered_from x f)

abbrev pub function_writes : Text → ℕ → List ℕ
function_writes x f = flat_map (λ n. written_in (shared x) (λ _. []) (own_accesses x.done n)) (entered_from x f)

abbrev pub reads : Text → List Access → List ℕ
reads x xs = read_in (objects_of x) (function_reads x) xs

abbrev pub writes : Text → List Access → List ℕ
writes x xs = written_in (objects_of x) (function_writes x) xs

-- ---- the rules

abbrev pub is_among : List ℕ → ℕ → Bool
is_among xs n = list_any (λ m. nat_eq m n) xs

abbrev pub meet : List ℕ → List ℕ → Bool
meet xs ys = list_any (is_among ys) xs

-- one operand may write what the other may read or write
abbrev pub clash : Text → List Access → List Access → Bool
clash x xs ys = meet (writes x xs) (reads x ys ++ writes x ys) || meet (writes x ys) (reads x xs)

-- two targets are the same, or may be through a pointer
abbrev pub same_target : Text → Target → Target → Bool
same_target x s t = meet (objects_of x s) (objects_of x t)

-- rule 17
abbrev pub answered : Text → Question → List Pair
answered x (Between at xs ys) = pair_if (clash x xs ys) at 17
answered x (Among at target direct) = pair_if (list_any (same_target x target) direct) at 17

-- the functions that a function calls
abbrev pub called_in : Text → ℕ → List ℕ
called_in x n = callees (own_calls x.done n)

-- rule 6: a call from which its own function is reached by calls
abbrev pub leads_back : Text → Option ℕ → Called → List Pair
leads_back x None c = []
leads_back x (Some f) c = pair_if (is_among (reached (length (with_bodies x.done)) (called_in x) c.callee) f) c.at 6

abbrev pub broken_by : Text → DoneIn → List Pair
broken_by x d = flat_map (answered x) d.done.asked.questions ++ flat_map (leads_back x d.function) d.done.asked.calls

abbrev pub text_of : Given → List External → Text
text_of g xs = record { names = g.names; done = done_in_text g xs; taken = taken_in (done_in_text g xs) }

abbrev pub broken_sequencing : Given → List External → List Pair
broken_sequencing g xs = flat_map (broken_by (text_of g xs)) (done_in_text g xs)
