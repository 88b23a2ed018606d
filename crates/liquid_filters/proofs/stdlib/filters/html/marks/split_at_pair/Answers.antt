use Rattle.std.specs.Str.{chars}
use Rattle.liquid_filters.proofs.Marks.{mark_long}
use Rattle.liquid_filters.proofs.Tags.{cut_body, cut_no_close, no_open}
use Rattle.liquid_filters.proofs.stdlib.filters.html.marks.split_at_pair.Goals as goal

pub returns-in-None-clause-cases : goal.returns-in-None-clause-cases
returns-in-None-clause-cases c = no_open _ _ _ c.in-None.ensures.splits

pub returns-in-None-split_at_mark-clause-cases : goal.returns-in-None-split_at_mark-clause-cases
returns-in-None-split_at_mark-clause-cases c = cut_no_close c.args.opener.now c.args.closer.now (chars c.args.text.now) (chars c.in-Some.before.now) (chars c.in-Some.body.now) c.requires.opens c.in-Some.ensures.splits c.in-None-split_at_mark.ensures.splits

pub returns-in-Some-split_at_mark-clause-cases : goal.returns-in-Some-split_at_mark-clause-cases
returns-in-Some-split_at_mark-clause-cases c =
    (cut_body c.args.opener.now c.args.closer.now (chars c.args.text.now) (chars c.in-Some.before.now) (chars c.in-Some.body.now) (chars c.in-Some-split_at_mark.field-0-0.now) (chars c.in-Some-split_at_mark.rest.now) c.requires.opens (mark_long c.args.closer.now c.requires.closes) c.in-Some.ensures.splits c.in-Some-split_at_mark.ensures.splits).0
