use Rattle.std.proofs.Common.{arith, ◌≡◌, Some, ℕ, List, [], ◌∷◌, ◌++◌, reverse, subst, sym, ◌∙◌, ap}
use Rattle.std.proofs.lemmas.List.{reverse-append, length-reverse}
use Rattle.mari_prices.specs.Ends.{IsTrailTo, depth_of}
use Rattle.mari_prices.proofs.Extremes.{entry_within}
use Rattle.mari_prices.proofs.ends.chain_to.Goals as goal

pub loop-before-smaller : goal.loop-before-smaller
loop-before-smaller c =
    let s = c.requires.trails.settled c.loop-before.first c.loop-before.invariant.there in
    let t = c.requires.trails.before c.loop-before.first c.in-Some.before s.0 s.1 (sym (c.previous_of.ensures s.0 s.1) ∙ c.in-Some.is) in
    omega (arith, ap depth_of s.1, ap depth_of t.1, t.2)

pub loop-before-preserved : goal.loop-before-preserved
loop-before-preserved c =
    let s = c.requires.trails.settled c.loop-before.first c.loop-before.invariant.there in
    let previous : s.0.previous ≡ Some c.in-Some.before = sym (c.previous_of.ensures s.0 s.1) ∙ c.in-Some.is in
    let t = c.requires.trails.before c.loop-before.first c.in-Some.before s.0 s.1 previous in
    let items : c.push-in-Some.new.self.items ≡ c.loop-before.chain.items ++ c.in-Some.before ∷ [] = c.in_ok-push-2.ensures.items in
    let trail = c.loop-before.invariant.trail in
    record {
      there = entry_within c.args.settled.now c.in-Some.before t.0 t.1;
      trail = record {
        rest = c.loop-before.first ∷ trail.rest;
        items = ap reverse items ∙ reverse-append c.loop-before.chain.items (c.in-Some.before ∷ []) ∙ ap (λ (xs : List ℕ). c.in-Some.before ∷ xs) trail.items;
        follows = (record { entry = s.0; settled = s.1; previous = previous }, trail.follows);
        ends = trail.ends;
      };
      long = omega (arith, ap depth_of s.1, ap depth_of t.1, t.2, c.in_ok-push-2.ensures.len, c.loop-before.invariant.long);
    }

pub returns : goal.returns
returns c =
    let s = c.requires.trails.settled c.loop-before.first c.loop-before.invariant.there in
    let e = c.requires.trails.settled c.args.last c.requires.last in
    subst (λ (chain : List ℕ). IsTrailTo c.args.settled.now c.args.last chain) (sym c.reverse.ensures.items) (record {
      first = c.loop-before.first;
      trail = c.loop-before.invariant.trail;
      entry = s.0;
      settled = s.1;
      start = sym (c.previous_of.ensures s.0 s.1) ∙ c.in_default.is;
      short = omega (
        arith,
        ap depth_of s.1,
        ap depth_of e.1,
        c.requires.trails.some c.loop-before.first s.0 s.1,
        c.requires.trails.short c.args.last e.0 e.1,
        c.loop-before.invariant.long,
        length-reverse c.loop-before.chain.items,
      );
    })
