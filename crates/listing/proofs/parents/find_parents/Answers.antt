use Rattle.std.proofs.Common.{◌≡◌, ◌<◌, map, length, take, ap, ◌∙◌, arith}
use Rattle.std.proofs.lemmas.List.{drop-set-lt, take_more_set, take_all}
use Rattle.listing.proofs.Firsts.{parent_in, all_parents, one_more}
use Rattle.listing.proofs.parents.find_parents.Goals as goal

pub loop-i-preserved : goal.loop-i-preserved
loop-i-preserved c =
    let spans = c.args.spans.now in
    let parents = c.loop-i.parents in
    let i = c.loop-i.i in
    let inv = c.loop-i.invariant in
    let within : i < length parents = omega arith in
    record {
      filled = one_more (parent_in spans) spans i _ (take i parents) _ c.get.result c.loop-i-test.true (take_more_set parents i c.get.result within) inv.filled (c.get.ensures ∙ c.index_spans.ensures _);
      behind = drop-set-lt (length spans) parents i c.get.result c.loop-i-test.true ∙ inv.behind;
    }

pub returns-clause-found : goal.returns-clause-found
returns-clause-found c =
    let spans = c.args.spans.now in
    let parents = c.loop-i.parents in
    let i = c.loop-i.i in
    let end : length spans ≡ i = omega (arith, c.loop-i.auto.i-end) in
    record {
      memory = omega arith;
      room = omega arith;
      front = all_parents spans _ (ap (λ n. take n parents) end ∙ c.loop-i.invariant.filled ∙ ap (map (parent_in spans)) (take_all i spans c.loop-i-test.false));
      behind = c.loop-i.invariant.behind;
    }
