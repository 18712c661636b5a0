-- Whether what a part gives leads to cells of a static object, where it leads into one.
use Rattle.std.specs.Prelude.{Bool}
use Rattle.c_kinds.specs.declared.typed.Typed.{Typed}
use Rattle.c_kinds.specs.declared.answer.Answer.{Answer}
use Rattle.c_kinds.specs.declared.answer.Answer.TheVariants.{Gives}
use Rattle.c_kinds.specs.Addresses.{moved}
use Rattle.c_kinds.specs.Elements.{read_pointer}
use Rattle.c_kinds.specs.Layouts.{Layout}
use Rattle.c_kinds.specs.Types.{inner}
use Rattle.c_operators.specs.Told.{LeadsBy}

-- a pointer by its value
abbrev pub UsedLeads : Layout → Answer → Bool → Type 0
UsedLeads l (Gives v) leads = LeadsBy l (inner v.ctype) v.fixed leads
UsedLeads l _ leads = Unit {0}

-- a pointer moved by an index, by the value of that
abbrev pub ElementOfLeads : Layout → Typed → Answer → Bool → Type 0
ElementOfLeads l a (Gives i) leads = LeadsBy l (inner a.ctype) (moved l (inner a.ctype) (read_pointer a).fixed i.fixed) leads
ElementOfLeads l a _ leads = Unit {0}

abbrev pub ElementLeads : Layout → Answer → Answer → Bool → Type 0
ElementLeads l (Gives a) index leads = ElementOfLeads l a index leads
ElementLeads l _ index leads = Unit {0}
