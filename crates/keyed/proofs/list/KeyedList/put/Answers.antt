use Rattle.std.proofs.Common.{◌<◌, length, arith}
use Rattle.keyed.proofs.Seeks.{known, replaced_used, added}
use Rattle.keyed.proofs.list.KeyedList.put.Goals as goal

pub returns-in-Some-clause-put : goal.returns-in-Some-clause-put
returns-in-Some-clause-put g c =
    known (g.S.Sameness.alike c.args.sameness.now) c.args.key c.args.value c.args.self.now.len c.args.self.now.entries.now c.in-Some.i c.index-self-i.result c.in-Some.ensures.place

pub returns-in-Some-clause-finds : goal.returns-in-Some-clause-finds
returns-in-Some-clause-finds g c =
    replaced_used _ (g.met.S.Sameness.laws c.args.sameness.now) c.args.key c.args.value c.args.self.now.len c.args.self.now.entries.now c.in-Some.i c.index-self-i.result c.in-Some.ensures.place c.in-Some.ensures.bound

pub returns-clause-finds : goal.returns-clause-finds
returns-clause-finds g c =
    let free : c.args.self.now.len < length c.args.self.now.entries.now = omega arith in
    added _ (g.met.S.Sameness.laws c.args.sameness.now) c.args.key c.args.value c.args.self.now.len c.args.self.now.entries.now c.in_default.ensures.place free
