use Rattle.std.proofs.Common.{◌+◌, None, Some, arith, sym, ap, refl, ◌∙◌}
use Rattle.mdv_layout.specs.Layouts.{layout_map}
use Rattle.mdv_engine.specs.declared.engine.Engine.{Engine}
use Rattle.mdv_engine.proofs.Located.{is_apart, lies_so, lies_within, no_volume, of_table, past_its_end, within_it}
use Rattle.mdv_engine.proofs.engine.Engine.place_of.Goals as goal
use Rattle.mdv_engine.proofs.engine.Engine.place_of.Goals.{then-at-blocks-via-then-at-blocks, then-at-blocks-via-else-at-blocks+then-count-blocks}

pub lay_out-requires-clause-table : goal.lay_out-requires-clause-table
lay_out-requires-clause-table c =
    of_table c.args.self.now.host c.args.self.now.state c.requires.well c.in-Some.store (sym (ap (λ (e : Engine). e.state.opened) c.self.view_is) ∙ c.in-Some.is) _ (ap (λ (e : Engine). e.host.drives) c.self.view_is) c.table.result.now c.table.ensures c.args.volume

pub returns-in_default-lay_out-clause-err : goal.returns-in_default-lay_out-clause-err
returns-in_default-lay_out-clause-err c =
    no_volume c.args.self.now.host c.args.self.now.state c.requires.well c.in-Some.store (sym (ap (λ (e : Engine). e.state.opened) c.self.view_is) ∙ c.in-Some.is) _ (ap (λ (e : Engine). e.host.drives) c.self.view_is) c.table.result.now c.table.ensures c.args.volume
    None c.in_default-lay_out.ensures.none (c.args.at + c.args.count) refl

pub returns-then-at-blocks-clause-err : goal.returns-then-at-blocks-clause-err
returns-then-at-blocks-clause-err c =
    past_its_end c.args.self.now.host c.args.self.now.state c.requires.well c.in-Some.store (sym (ap (λ (e : Engine). e.state.opened) c.self.view_is) ∙ c.in-Some.is) _ (ap (λ (e : Engine). e.host.drives) c.self.view_is) c.table.result.now c.table.ensures c.args.volume
    (Some (layout_map c.in-Some-lay_out.layout)) c.in-Some-lay_out.ensures.laid (layout_map c.in-Some-lay_out.layout) refl (c.args.at + c.args.count)
    (elim c.then-at-blocks.branch [ then-at-blocks-via-then-at-blocks w ↦ omega arith | then-at-blocks-via-else-at-blocks+then-count-blocks w ↦ omega arith ])

pub returns-clause-ok : goal.returns-clause-ok
returns-clause-ok c = record {
  o = c.in-Some.store;
  opened = sym (ap (λ (e : Engine). e.state.opened) c.self.view_is) ∙ c.in-Some.is;
  lies = lies_so c.args.self.now.host c.args.self.now.state c.requires.well c.in-Some.store (sym (ap (λ (e : Engine). e.state.opened) c.self.view_is) ∙ c.in-Some.is) _ (ap (λ (e : Engine). e.host.drives) c.self.view_is) c.table.result.now c.table.ensures c.args.volume
      (Some (layout_map c.in-Some-lay_out.layout)) c.in-Some-lay_out.ensures.laid (layout_map c.in-Some-lay_out.layout) refl;
  within = omega arith;
}

pub returns-clause-within : goal.returns-clause-within
returns-clause-within c = record {
  well = c.in-Some-lay_out.ensures.well;
  room = omega arith;
  apart = is_apart c.args.self.now.host c.args.self.now.state c.requires.well c.in-Some.store (sym (ap (λ (e : Engine). e.state.opened) c.self.view_is) ∙ c.in-Some.is) _ (ap (λ (e : Engine). e.host.drives) c.self.view_is) c.table.result.now c.table.ensures c.args.volume
      (Some (layout_map c.in-Some-lay_out.layout)) c.in-Some-lay_out.ensures.laid (layout_map c.in-Some-lay_out.layout) refl c.requires.sound;
  lies = lies_within c.args.self.now.host c.args.self.now.state c.requires.well c.in-Some.store (sym (ap (λ (e : Engine). e.state.opened) c.self.view_is) ∙ c.in-Some.is) _ (ap (λ (e : Engine). e.host.drives) c.self.view_is) c.table.result.now c.table.ensures c.args.volume
      (Some (layout_map c.in-Some-lay_out.layout)) c.in-Some-lay_out.ensures.laid (layout_map c.in-Some-lay_out.layout) refl c.requires.sound;
}

pub returns-clause-free : goal.returns-clause-free
returns-clause-free c =
    within_it c.args.self.now.host c.args.self.now.state c.requires.well c.in-Some.store (sym (ap (λ (e : Engine). e.state.opened) c.self.view_is) ∙ c.in-Some.is) _ (ap (λ (e : Engine). e.host.drives) c.self.view_is) c.table.result.now c.table.ensures c.args.volume
    (Some (layout_map c.in-Some-lay_out.layout)) c.in-Some-lay_out.ensures.laid (layout_map c.in-Some-lay_out.layout) refl (c.args.at + c.args.count) (omega arith)
