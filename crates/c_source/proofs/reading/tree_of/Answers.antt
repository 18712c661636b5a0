use Rattle.std.proofs.Common.{Err, ap, ◌∙◌}
use Rattle.c_source.specs.Sources.{line_at}
use Rattle.c_source.proofs.reading.tree_of.Goals as goal

pub returns-in-Err-TooDeep : goal.returns-in-Err-TooDeep
returns-in-Err-TooDeep c = λ source has.
    let first = c.in-Err-TooDeep.ensures.too_deep c.in-Err-TooDeep.at (ap Err c.in-Err-TooDeep.field-0-is) in
    record {
      tokens = c.args.tokens.now;
      at = c.in-Err-TooDeep.at;
      has = has;
      none_left_out = first.0;
      first = first.1;
      line_is = c.line_at-in-Err-TooDeep.ensures ∙ ap (λ tokens. line_at tokens c.in-Err-TooDeep.at) c.as_slice-in-Err-TooDeep.ensures;
    }
