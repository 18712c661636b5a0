-- The table of keywords in two parts.
use Rattle.std.specs.Prelude.{List, [], ◌∷◌}
use Rattle.kv_num.specs.declared.types.IntType.TheVariants.{Bool as B, Char, SChar, UChar, Short, UShort, Int, UInt, LongLong, ULongLong}
use Rattle.c_tokens.specs.declared.data_model.DataModel.{DataModel}
use Rattle.c_tree.specs.declared.expression.BaseWord.{BaseWord}
use Rattle.c_tree.specs.declared.expression.BaseWord.TheVariants as word
use Rattle.c_kinds.specs.declared.types.Base.{Base}
use Rattle.c_kinds.specs.declared.types.Base.TheVariants as base
use Rattle.c_kinds.specs.Integers.{long_of, unsigned_long_of}

abbrev pub narrow_rows : List (Base × List (List BaseWord))
narrow_rows =
    (base.Void, (word.Void ∷ []) ∷ [])
    ∷ (base.Integer B, (word.Bool ∷ []) ∷ [])
    ∷ (base.Integer Char, (word.Char ∷ []) ∷ [])
    ∷ (base.Integer SChar, (word.Signed ∷ word.Char ∷ []) ∷ [])
    ∷ (base.Integer UChar, (word.Unsigned ∷ word.Char ∷ []) ∷ [])
    ∷ (base.Integer Short, (word.Short ∷ []) ∷ (word.Signed ∷ word.Short ∷ []) ∷ (word.Short ∷ word.Int ∷ []) ∷ (word.Signed ∷ word.Short ∷ word.Int ∷ []) ∷ [])
    ∷ (base.Integer UShort, (word.Unsigned ∷ word.Short ∷ []) ∷ (word.Unsigned ∷ word.Short ∷ word.Int ∷ []) ∷ [])
    ∷ []

abbrev pub wide_rows : DataModel → List (Base × List (List BaseWord))
wide_rows model =
    (base.Integer Int, (word.Int ∷ []) ∷ (word.Signed ∷ []) ∷ (word.Signed ∷ word.Int ∷ []) ∷ [])
    ∷ (base.Integer UInt, (word.Unsigned ∷ []) ∷ (word.Unsigned ∷ word.Int ∷ []) ∷ [])
    ∷ (base.Integer (long_of model), (word.Long ∷ []) ∷ (word.Signed ∷ word.Long ∷ []) ∷ (word.Long ∷ word.Int ∷ []) ∷ (word.Signed ∷ word.Long ∷ word.Int ∷ []) ∷ [])
    ∷ (base.Integer (unsigned_long_of model), (word.Unsigned ∷ word.Long ∷ []) ∷ (word.Unsigned ∷ word.Long ∷ word.Int ∷ []) ∷ [])
    ∷ (base.Integer LongLong, (word.Long ∷ word.Long ∷ []) ∷ (word.Signed ∷ word.Long ∷ word.Long ∷ []) ∷ (word.Long ∷ word.Long ∷ word.Int ∷ []) ∷ (word.Signed ∷ word.Long ∷ word.Long ∷ word.Int ∷ []) ∷ [])
    ∷ (base.Integer ULongLong, (word.Unsigned ∷ word.Long ∷ word.Long ∷ []) ∷ (word.Unsigned ∷ word.Long ∷ word.Long ∷ word.Int ∷ []) ∷ [])
    ∷ []
