use Rattle.std.proofs.Common.{◌≡◌, ◌∙◌, ◌<◌, ◌-◌, true, ℕ, List, Some, None, length, get_or, sym, ap, subst}
use Rattle.std.proofs.Math.ListN.{set}
use Rattle.std.proofs.lemmas.List.{length-set, with_items_is}
use Rattle.std.proofs.lemmas.Result.{on_ok_weaker}
use Rattle.mdv_tab.specs.Making.{made_at, name_count, IsLeft, IsCounted, IsPartOrder, NeedsIn, count_of}
use Rattle.mdv_tab.proofs.Makings.{left_of, made_here, made_next, makes_one, some_left, counted_some, counted_none, seen_next, queued_some, queued_none, on_ok_both, on_ok_any}
use Rattle.mdv_tab.proofs.making.Making.make.Goals as goal

pub pass-requires-clause-within : goal.pass-requires-clause-within
pass-requires-clause-within c = c.requires.graph.makes c.args.place c.in-Some.name (made_here c.args.graph.now c.args.place c.index.result.now c.requires.next.remains.0 c.index.ensures ∙ c.in-Some.is)

pub pass-requires-clause-some : goal.pass-requires-clause-some
pass-requires-clause-some c =
    let g = c.args.graph.now in
    let made = c.args.self.now.made.items in
    let i = c.args.place in
    let here : IsLeft made i = left_of _ _ made _ c.requires.far.order i c.requires.next.remains in
    let is : made_at g i ≡ Some c.in-Some.name = made_here g i c.index.result.now c.requires.next.remains.0 c.index.ensures ∙ c.in-Some.is in
    let F : List ℕ → Type 0 = λ l. 0 < get_or l c.in-Some.name 0 in
    subst F (sym c.as_mut_slice.ensures.value) (some_left g made i here c.args.self.now.left.items c.in-Some.name c.requires.far.counted (c.requires.graph.makes i c.in-Some.name is) is)

pub returns-in-Some : goal.returns-in-Some
returns-in-Some c =
    let g = c.args.graph.now in
    let made = c.args.self.now.made.items in
    let i = c.args.place in
    let y = c.in-Some.name in
    let here : IsLeft made i = left_of _ _ made _ c.requires.far.order i c.requires.next.remains in
    let is : made_at g i ≡ Some y = made_here g i c.index.result.now c.requires.next.remains.0 c.index.ensures ∙ c.in-Some.is in
    let small : y < name_count g = c.requires.graph.makes i y is in
    let F : List ℕ → Type 0 = λ l. IsCounted g (set made i true) l in
    let G : List ℕ → Type 0 = λ l. IsCounted g (set made i true) (set l y (get_or l y 0 - 1)) in
    let H : List ℕ → Type 0 = λ l. IsPartOrder (NeedsIn g) (count_of g) (set made i true) l in
    let counted = subst G (sym c.as_mut_slice.ensures.value) (counted_some g made i here c.args.self.now.left.items y c.requires.far.counted small is) in
    record {
      far = on_ok_weaker c.pass.result (λ left. record {
        order = subst H (sym c.in_ok-push.ensures.items) (made_next _ _ made _ i c.requires.far.order c.requires.next);
        counted = subst F (sym (with_items_is c.args.self.now.left c.pass.new.left (ap (λ (l : List ℕ). length l) left ∙ length-set _ y _ ∙ ap (λ (l : List ℕ). length l) c.as_mut_slice.ensures.value ∙ sym c.args.self.now.left.ok.0))) (subst F (sym left) counted);
        seen = seen_next g made i here _ c.requires.far.seen;
      }) c.pass.ensures.left;
      queued = on_ok_both c.pass.result (λ left queue. queued_some g made i here c.args.self.now.queue c.pass.new.queue c.pass.new.left y c.requires.graph c.requires.queued (subst F (sym left) counted) small is queue) c.pass.ensures.left c.pass.ensures.queue;
      one = on_ok_any c.pass.result (makes_one made i here);
    }

pub returns-in-None-clause-far : goal.returns-in-None-clause-far
returns-in-None-clause-far c =
    let g = c.args.graph.now in
    let made = c.args.self.now.made.items in
    let i = c.args.place in
    let here : IsLeft made i = left_of _ _ made _ c.requires.far.order i c.requires.next.remains in
    let is : made_at g i ≡ None = made_here g i c.index.result.now c.requires.next.remains.0 c.index.ensures ∙ c.in-None.is in
    let H : List ℕ → Type 0 = λ l. IsPartOrder (NeedsIn g) (count_of g) (set made i true) l in
    record {
      order = subst H (sym c.in_ok-push.ensures.items) (made_next _ _ made _ i c.requires.far.order c.requires.next);
      counted = counted_none g made i here _ c.requires.far.counted is;
      seen = seen_next g made i here _ c.requires.far.seen;
    }

pub returns-in-None-clause-queued : goal.returns-in-None-clause-queued
returns-in-None-clause-queued c =
    let i = c.args.place in
    queued_none c.args.graph.now c.args.self.now.made.items i (left_of _ _ _ _ c.requires.far.order i c.requires.next.remains) c.args.self.now.queue c.requires.queued (made_here c.args.graph.now i c.index.result.now c.requires.next.remains.0 c.index.ensures ∙ c.in-None.is)

pub returns-in-None-clause-one : goal.returns-in-None-clause-one
returns-in-None-clause-one c = makes_one c.args.self.now.made.items c.args.place (left_of _ _ _ _ c.requires.far.order c.args.place c.requires.next.remains)
