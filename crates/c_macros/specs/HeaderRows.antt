-- The headers of the code as those of the definition.
use Rattle.std.specs.Prelude.{ℕ, List, map}
use Rattle.c_tokens.specs.Headers.{Header as SpecHeader, AssertHeader, LimitsHeader, StdboolHeader, StddefHeader, StdintHeader}
use Rattle.c_macros.specs.declared.headers.Header.{Header}
use Rattle.c_macros.specs.declared.headers.Header.TheVariants as kinds
use Rattle.c_macros.specs.declared.headers.HeaderRow.{HeaderRow}

abbrev pub header_view : Header → SpecHeader
header_view kinds.Assert = AssertHeader
header_view kinds.Limits = LimitsHeader
header_view kinds.Stdbool = StdboolHeader
header_view kinds.Stddef = StddefHeader
header_view kinds.Stdint = StdintHeader

abbrev pub header_rows : List HeaderRow → List (List ℕ × SpecHeader)
header_rows table = map (λ row. (row.text.now, header_view row.header)) table
