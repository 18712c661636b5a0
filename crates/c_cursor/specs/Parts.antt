-- What function values that read the parts of a rule ensure.
use Rattle.std.specs.Prelude.{ℕ, ◌≤◌, List, Result}
use Rattle.std.specs.declared.alloc.Global.{Global}
use denote.Ref.{Bor, MutBor}
use Rattle.c_tokens.specs.declared.token.Token.{Token}
use Rattle.c_tokens.specs.declared.token.TokenKind.{TokenKind}
use Rattle.c_tree.specs.declared.expression.Expression.{Expression}
use Rattle.c_tree.specs.declared.expression.MemberLine.{MemberLine}
use Rattle.c_tree.specs.declared.expression.EnumConstant.{EnumConstant}
use Rattle.c_tree.specs.Places.{Place}
use Rattle.c_tree.specs.SpellsText.{kinds_of}
use Rattle.c_cursor.specs.declared.fault.Fault.{Fault}
use Rattle.c_grammar.specs.ReadExpressions.{Outcome}
use Rattle.c_grammar.specs.Readers.{read, specifiers, perhaps, struct_with, enum_with}
use Rattle.c_cursor.specs.Reads.{Reads, ReadsAs}

-- what reads expressions of any level, in up to this many steps
pub record ReadsExpressions (depth : ℕ) (pre : Global → Bor (List Token) → ℕ → ℕ → MutBor Place → Type 0)
    (post : Global → Bor (List Token) → ℕ → ℕ → MutBor Place → Result Expression Fault → MutBor Place → Type 0) : Type 0 where
  pub callable : (alloc : Global) (tokens : Bor (List Token)) (n : ℕ) → n ≤ depth → (least : ℕ) (old : MutBor Place) → pre alloc tokens n least old
  pub reads : (alloc : Global) (tokens : Bor (List Token)) (n least : ℕ) (old new : MutBor Place) (r : Result Expression Fault) → post alloc tokens n least old r new
      → Reads (read (kinds_of tokens.now) n least old.now) r new.now

-- what reads this part, in up to this many steps
pub record ReadsPart {A : Type 0} (part : List TokenKind → ℕ → Place → Outcome A) (depth : ℕ) (pre : Global → Bor (List Token) → ℕ → MutBor Place → Type 0)
    (post : Global → Bor (List Token) → ℕ → MutBor Place → Result A Fault → MutBor Place → Type 0) : Type 0 where
  pub callable : (alloc : Global) (tokens : Bor (List Token)) (n : ℕ) → n ≤ depth → (old : MutBor Place) → pre alloc tokens n old
  pub reads : (alloc : Global) (tokens : Bor (List Token)) (n : ℕ) (old new : MutBor Place) (r : Result A Fault) → post alloc tokens n old r new
      → Reads (part (kinds_of tokens.now) n old.now) r new.now

-- likewise, seen by a function
pub record ReadsPartAs {A B : Type 0} (view : B → A) (part : List TokenKind → ℕ → Place → Outcome A) (depth : ℕ) (pre : Global → Bor (List Token) → ℕ → MutBor Place → Type 0)
    (post : Global → Bor (List Token) → ℕ → MutBor Place → Result B Fault → MutBor Place → Type 0) : Type 0 where
  pub callable : (alloc : Global) (tokens : Bor (List Token)) (n : ℕ) → n ≤ depth → (old : MutBor Place) → pre alloc tokens n old
  pub reads : (alloc : Global) (tokens : Bor (List Token)) (n : ℕ) (old new : MutBor Place) (r : Result B Fault) → post alloc tokens n old r new
      → ReadsAs view (part (kinds_of tokens.now) n old.now) r new.now

-- the lines of a struct (6.7.2.1) and the constants of an enumeration (6.7.2.2), up to the `}`
abbrev pub lines_at : List TokenKind → ℕ → Place → Outcome (List MemberLine)
lines_at kinds n p = struct_with kinds (read kinds n) (specifiers kinds n) (perhaps kinds n) n p

abbrev pub constants_at : List TokenKind → ℕ → Place → Outcome (List EnumConstant)
constants_at kinds n p = enum_with kinds (read kinds n) n p
