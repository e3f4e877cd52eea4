use Rattle.words.proofs.Once.{same_options}
use Rattle.words.proofs.read.read_options.Goals as goal

pub returns-in-Some-clause-ok : goal.returns-in-Some-clause-ok
returns-in-Some-clause-ok c = λ parts found. c.in-Some.ensures parts _ found c.in_ok-watch.ensures.ok c.in_ok-watch.ensures.room

pub returns-in-Some-clause-once : goal.returns-in-Some-clause-once
returns-in-Some-clause-once c = λ parts found d g.
    same_options c.args.usual _ parts c.in-Some.options d (c.in-Some.ensures parts _ found c.in_ok-watch.ensures.ok c.in_ok-watch.ensures.room) g
