-- Marks that don't differ are one mark.
use Rattle.std.proofs.Common.{◌≡◌, Bool, true, false, not, refl, sym, ap}
use Rattle.std.proofs.lemmas.Bool.{false≢true}
use denote.Enum.Bare.{same_true}
use Rattle.c_tree.specs.contracts.expression.StorageWord as storage
use Rattle.c_tree.specs.contracts.expression.FunctionWord as function
use Rattle.c_tree.specs.contracts.expression.Qualifier as qualifier
use Rattle.c_tree.specs.contracts.expression.BaseWord as base
use Rattle.kv_num.specs.contracts.types.IntType as integer
use Rattle.c_cursor.specs.declared.marks.Mark.{Mark}
use Rattle.c_cursor.specs.declared.marks.Mark.TheVariants as mark
use Rattle.c_cursor.specs.contracts.marks.MarkPartialEq.TheImpl as derived_equality

abbrev pub equal : Mark → Mark → Bool
equal = (derived_equality.ghosts).eq

same_mark : (a b : Mark) → equal a b ≡ true → a ≡ b
same_mark mark.RoundOpens mark.RoundOpens e = refl
same_mark mark.RoundCloses mark.RoundCloses e = refl
same_mark mark.SquareOpens mark.SquareOpens e = refl
same_mark mark.SquareCloses mark.SquareCloses e = refl
same_mark mark.CurlyOpens mark.CurlyOpens e = refl
same_mark mark.CurlyCloses mark.CurlyCloses e = refl
same_mark mark.Semicolon mark.Semicolon e = refl
same_mark mark.Comma mark.Comma e = refl
same_mark mark.Colon mark.Colon e = refl
same_mark mark.Equals mark.Equals e = refl
same_mark mark.Star mark.Star e = refl
same_mark mark.Ellipsis mark.Ellipsis e = refl
same_mark mark.Name mark.Name e = refl
same_mark mark.Attribute mark.Attribute e = refl
same_mark mark.Extension mark.Extension e = refl
same_mark mark.Structs mark.Structs e = refl
same_mark mark.Enums mark.Enums e = refl
same_mark mark.Case mark.Case e = refl
same_mark mark.Default mark.Default e = refl
same_mark mark.If mark.If e = refl
same_mark mark.Else mark.Else e = refl
same_mark mark.Switch mark.Switch e = refl
same_mark mark.While mark.While e = refl
same_mark mark.Do mark.Do e = refl
same_mark mark.For mark.For e = refl
same_mark mark.Break mark.Break e = refl
same_mark mark.Continue mark.Continue e = refl
same_mark mark.Return mark.Return e = refl
same_mark mark.NoMark mark.NoMark e = refl
same_mark (mark.Stores x) (mark.Stores y) e = ap mark.Stores (same_true storage.the_type tt x y e)
same_mark (mark.Functions x) (mark.Functions y) e = ap mark.Functions (same_true function.the_type tt x y e)
same_mark (mark.Qualifies x) (mark.Qualifies y) e = ap mark.Qualifies (same_true qualifier.the_type tt x y e)
same_mark (mark.Bases x) (mark.Bases y) e = ap mark.Bases (same_true base.the_type tt x y e)
same_mark (mark.TypeWords x) (mark.TypeWords y) e = ap mark.TypeWords (same_true integer.the_type tt x y e)
same_mark _ _ e = absurd (false≢true e)

so_true : (b : Bool) → not b ≡ false → b ≡ true
so_true true e = refl
so_true false e = absurd (false≢true (sym e))

pub one_mark : (a b : Mark) → not (equal a b) ≡ false → a ≡ b
one_mark a b e = same_mark a b (so_true (equal a b) e)
