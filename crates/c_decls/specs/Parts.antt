-- What the passes hand on beside the state, as the definitions have it: with the state.
use Rattle.c_rules.specs.Scopes.{State}
use Rattle.c_rules.specs.Declarators.{FirstSize, Needed, OfParameter, OfBraces, Site, Built, ParameterBuilt, Listed}
use Rattle.c_rules.specs.Declarations.{How}
use Rattle.c_rules.specs.Tags.{MemberSite}
use Rattle.c_decls.specs.declared.built.Built.{Built as Made}
use Rattle.c_decls.specs.declared.built.Site.{Site as Place}
use Rattle.c_decls.specs.declared.built.FirstSize.{FirstSize as Size}
use Rattle.c_decls.specs.declared.built.FirstSize.TheVariants as size
use Rattle.c_decls.specs.declared.built.ParameterBuilt.{ParameterBuilt as MadeParameter}
use Rattle.c_decls.specs.declared.built.Listed.{Listed as MadeList}
use Rattle.c_decls.specs.declared.built.How.{How as Manner}
use Rattle.c_decls.specs.declared.built.MemberSite.{MemberSite as MemberPlace}

abbrev pub first_size : Size → FirstSize
first_size size.Needed = Needed
first_size size.OfParameter = OfParameter
first_size (size.OfBraces parts) = OfBraces parts

abbrev pub site : Place → Site
site x = record { first_size = first_size x.first_size; first = x.first; is_type_name = x.is_type_name }

abbrev pub built : State → Made → Built
built st x = record {
  state = st;
  ctype = x.ctype;
  name = x.name;
  at = x.at;
  pointers = x.pointers;
  in_definition = x.in_definition;
  parameters = x.parameters;
  dots = x.dots;
}

abbrev pub parameter : State → MadeParameter → ParameterBuilt
parameter st x = record {
  state = st;
  ctype = x.ctype;
  pointers = x.pointers;
  in_definition = x.in_definition;
  first = x.first;
  is_nothing = x.is_nothing;
}

abbrev pub listed : State → MadeList → Listed
listed st x = record { state = st; types = x.types; pointers = x.pointers; in_definition = x.in_definition }

abbrev pub how : Manner → How
how x = record {
  is_typedef = x.is_typedef;
  is_extern = x.is_extern;
  is_static = x.is_static;
  is_initialised = x.is_initialised;
  has_body = x.has_body;
  first = x.first;
}

abbrev pub member_site : MemberPlace → MemberSite
member_site x = record { number = x.number; ctype = x.ctype; first = x.first }
