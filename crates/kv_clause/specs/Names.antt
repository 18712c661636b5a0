-- What a query is called in print.
use Rattle.std.specs.Prelude.{ℕ, List, ◌++◌, codes}
use Rattle.std.specs.Fmt.{decimal}
use Rattle.kv_clause.specs.declared.query.Query.{Query}
use Rattle.kv_clause.specs.declared.query.Query.TheVariants.{Base, Forward, Step, First, Induct, Closing}

abbrev pub name_of : Query → List ℕ
name_of (Base k) = codes "base case " ++ decimal k
name_of (Forward k) = codes "forward condition " ++ decimal k
name_of (Step k under) = codes "inductive step " ++ decimal k
name_of (First round bs) = codes "first arrivals " ++ decimal round
name_of (Induct round bs) = codes "inductive subset " ++ decimal round
name_of (Closing k under) = codes "closing step " ++ decimal k
