use Rattle.std.proofs.Common.{◌+◌, ◌-◌, ◌≤◌, ap, subst, arith}
use Rattle.mdv_layout.specs.Below.{IsPiece, Map}
use Rattle.mdv_layout.specs.Layouts.{laid_map}
use Rattle.mdv_layout.proofs.Pieces.{row_together, stripe_lies, stripe_well}
use Rattle.mdv_layout.proofs.layout.Layout.row_piece.Goals as goal

pub blocks-requires : goal.blocks-requires
blocks-requires c =
    let stripe = c.stripe_of-stripe in
    stripe_well c.args.self.now c.args.at c.row_at-row.result stripe.result.components.now stripe.result.interlace stripe.result.units c.requires.well c.row_at-row.ensures stripe.ensures.components stripe.ensures.interlace stripe.ensures.units

pub overflow_sub-blocks : goal.overflow_sub-blocks
overflow_sub-blocks c =
    let stripe = c.stripe_of-stripe in
    let same = stripe_lies c.args.self.now.leaves.items c.row_at-row.result stripe.result.components.now stripe.result.interlace stripe.ensures.components stripe.ensures.interlace in
    let to = c.row_at-row.ensures.to in
    omega (arith, c.blocks-2.ensures, ap (λ (v : Map). v.blocks) same)

pub piece-requires-clause-well : goal.piece-requires-clause-well
piece-requires-clause-well c =
    let stripe = c.stripe_of-stripe in
    stripe_well c.args.self.now c.args.at c.row_at-row.result stripe.result.components.now stripe.result.interlace stripe.result.units c.requires.well c.row_at-row.ensures stripe.ensures.components stripe.ensures.interlace stripe.ensures.units

pub piece-requires-clause-some : goal.piece-requires-clause-some
piece-requires-clause-some c =
    let stripe = c.stripe_of-stripe in
    let same = stripe_lies c.args.self.now.leaves.items c.row_at-row.result stripe.result.components.now stripe.result.interlace stripe.ensures.components stripe.ensures.interlace in
    let to = c.row_at-row.ensures.to in
    let from = c.row_at-row.ensures.from in
    omega (arith, c.min.ensures, c.requires.some, c.blocks-2.ensures, ap (λ (v : Map). v.blocks) same)

pub piece-requires-clause-within : goal.piece-requires-clause-within
piece-requires-clause-within c =
    let stripe = c.stripe_of-stripe in
    let same = stripe_lies c.args.self.now.leaves.items c.row_at-row.result stripe.result.components.now stripe.result.interlace stripe.ensures.components stripe.ensures.interlace in
    let to = c.row_at-row.ensures.to in
    let from = c.row_at-row.ensures.from in
    omega (arith, c.min.ensures, c.blocks-2.ensures, ap (λ (v : Map). v.blocks) same)

pub returns : goal.returns
returns c =
    let stripe = c.stripe_of-stripe in
    let row = c.row_at-row.result in
    let from = c.args.at - row.start in
    let same = stripe_lies c.args.self.now.leaves.items row stripe.result.components.now stripe.result.interlace stripe.ensures.components stripe.ensures.interlace in
    let to = c.row_at-row.ensures.to in
    let begun = c.row_at-row.ensures.from in
    let few : c.min.result ≤ c.args.count = omega (arith, c.min.ensures) in
    let inside : from + c.min.result ≤ (laid_map c.args.self.now.leaves.items row).blocks = omega (arith, c.min.ensures, c.blocks-2.ensures, ap (λ (v : Map). v.blocks) same) in
    row_together c.args.self.now c.args.at c.args.count c.min.result row c.piece.result c.row_at-row.ensures few inside (subst (λ (v : Map). IsPiece v from c.min.result c.piece.result) same c.piece.ensures)
