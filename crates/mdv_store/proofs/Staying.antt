-- Replicas that stay, under one head or another, while one of them is written.
use Rattle.std.proofs.Common.{inl, inr, ℕ, List, sym, subst}
use Rattle.mdv_name.specs.Sound.{IsSound}
use Rattle.mdv_name.specs.declared.slice_lines.SliceLine.{SliceLine}
use Rattle.mdv_replica.specs.Form.{IsTable}
use Rattle.mdv_replica.specs.Images.{MayFill, closed, filled, untouched}
use Rattle.mdv_replica.specs.declared.forms.Master.{Master}
use Rattle.mdv_shown.specs.Found.{Counts, IsFound}
use Rattle.mdv_shown.specs.Site.{IsSite}
use Rattle.mdv_shown.proofs.Kept.{IsRewrite, closed_rewrites, filled_rewrites, slots_still}
use Rattle.mdv_shown.proofs.Rewritten.{own_new}
use Rattle.mdv_shown.proofs.Sites.{site_is}
use Rattle.mdv_store.specs.Below.{Geometry, Head, Identity, Image, IsOwn, Key, Mark, Replica, Site, Slot, at_of, site_of}
use Rattle.mdv_store.specs.Records.{Spells}
use Rattle.mdv_store.proofs.Holding.{of_its_key, one_first}

module _ (g : Geometry) (key : Key) (identity : Identity) (sound : IsSound g) (r : Replica) (old new : Image) (mine : IsOwn (Spells g) (site_of g key) identity r.line r.number old r.first r.head)
    (slot : Slot) (mark : Mark) (bytes : ℕ) (body : List (List ℕ)) (table : IsTable (Counts (Spells g)) (at_of r) mark bytes body) (change : MayFill (at_of r) slot mark bytes body old new) where
  abbrev site : Site
  site = site_of g key

  ok : IsSite site
  ok = site_is g key sound

  its : IsFound (Spells g) (record site { key = r.head.master.key }) r.line r.number (old r.line.at.drive.0) r.first r.head
  its = of_its_key g key identity r r old new mine

  -- a replica is there, under one head or another
  abbrev pub IsThere : SliceLine → ℕ → Master → Image → Type 0
  IsThere line k first image = (head : Head) × IsOwn (Spells g) site identity line k image first head

  rewritten : IsRewrite (Spells g) site r.line r.number r.first r.head old new its → IsThere r.line r.number r.first new
  rewritten w = (
    w.next,
    own_new (Spells g) site ok identity r.line r.number r.first r.head w.next old new (record { own = mine; elsewhere = w.behind; now = w.now; master = w.master }),
  )

  -- the one that is written
  written : MayFill (at_of r) slot mark bytes body old new → IsThere r.line r.number r.first new
  written (untouched same) = (r.head, subst (λ (x : Image). IsOwn (Spells g) site identity r.line r.number x r.first r.head) (λ i drive block. sym (same drive block) i) mine)
  written (closed others shut) = rewritten (closed_rewrites (Spells g) site r.line r.number r.first r.head old new its slot mark bytes body table others shut)
  written (filled fills) = rewritten (filled_rewrites (Spells g) site r.line r.number r.first r.head old new its slot mark bytes body table fills)

  -- and each other one
  pub stays_there : (q : Replica) → IsThere q.line q.number q.first old → IsThere q.line q.number q.first new
  stays_there q was = elim (slots_still (Spells g) site r.line r.number r.first r.head old new its ok slot mark bytes body table change q.line q.number q.first was.0 was.1.found) [
    | inl same ↦
        let now = written change in
        let first = one_first g key identity (record q { head = was.0 }) r old new was.1 mine same.0 in (
          now.0,
          subst (λ (l : SliceLine). IsOwn (Spells g) site identity l q.number new q.first now.0) (sym same.0)
              (subst (λ (k : ℕ). IsOwn (Spells g) site identity r.line k new q.first now.0) (sym same.1)
              (subst (λ (f : Master). IsOwn (Spells g) site identity r.line r.number new f now.0) (sym first) now.1)),
        )
    | inr kept ↦ (was.0, record { found = kept.found; of_identity = was.1.of_identity })
  ]
