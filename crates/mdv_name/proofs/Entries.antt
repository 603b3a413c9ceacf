-- Words spell one line at most.
use Rattle.std.proofs.Common.{◌≡◌, ◌<◌, ◌^◌, ℕ, Bool, true, false, refl, sym, ◌∙◌, ap, subst, List, [], ◌∷◌, codes, decimal, inl, inr, get_or, arith}
use Rattle.std.proofs.lemmas.Fmt.{decimal_injective}
use Rattle.std.specs.Bool.{MatchBool}
use Rattle.mdv_text.specs.Words.{words}
use Rattle.mdv_name.specs.declared.drive_line.DriveKind.{DriveKind}
use Rattle.mdv_name.specs.declared.drive_line.DriveKind.TheVariants.{Own, Shared, Mediator}
use Rattle.mdv_name.specs.declared.entry.Entry.{Entry}
use Rattle.mdv_name.specs.declared.entry.Entry.TheVariants.{Host, Drive, Slice}
use Rattle.mdv_name.specs.declared.geometry.Geometry.{Geometry}
use Rattle.mdv_name.specs.Drive.{drive_text, slice_text}
use Rattle.mdv_name.specs.DriveIndex.{IsNamed}
use Rattle.mdv_name.specs.Entry.{IsEntry, IsOwner, entry_words, drive_words, db_words}
use Rattle.mdv_name.specs.Geometry.{Adds, AddsLine, CountsForNothing}
use Rattle.mdv_name.specs.Lines.{content}
use Rattle.mdv_name.proofs.Drives.{drive_text_injective, slice_text_injective}

pub record SameDrive (k j : DriveKind) (a b : ℕ) (f g : List ℕ) : Type 0 where
  pub kind : k ≡ j
  pub blocks : a ≡ b
  pub file : f ≡ g

same_drive : (k j : DriveKind) (a b : ℕ) (f g : List ℕ) → IsNamed k → IsNamed j → IsOwner k → IsOwner j → a < 2 ^ 64 → b < 2 ^ 64 → drive_words k a f ≡ drive_words j b g → SameDrive k j a b f g
same_drive (Own d s) (Own e t) a b f g named also owner other fits fit is =
    let drives : drive_text d ≡ drive_text e = cc in
    let numbers : decimal a ≡ decimal b = cc in
    let drive = drive_text_injective d e named.0 also.0 drives in
    let hosts : s ≡ t = cc in
    record { kind = λ i. Own (drive i) (hosts i); blocks = decimal_injective a b fits fit numbers; file = cc }
same_drive (Own d s) (Shared e) a b f g named also owner other fits fit is = let host : s ≡ codes "shared" = cc in absurd (owner host)
same_drive (Own d s) (Mediator t) a b f g named also owner other fits fit is = cc
same_drive (Shared d) (Own e t) a b f g named also owner other fits fit is = let host : t ≡ codes "shared" = cc in absurd (other host)
same_drive (Shared d) (Shared e) a b f g named also owner other fits fit is =
    let drives : drive_text d ≡ drive_text e = cc in
    let numbers : decimal a ≡ decimal b = cc in
    let drive = drive_text_injective d e named also drives in
    record { kind = λ i. Shared (drive i); blocks = decimal_injective a b fits fit numbers; file = cc }
same_drive (Shared d) (Mediator t) a b f g named also owner other fits fit is = cc
same_drive (Mediator s) (Own e t) a b f g named also owner other fits fit is = cc
same_drive (Mediator s) (Shared e) a b f g named also owner other fits fit is = cc
same_drive (Mediator s) (Mediator t) a b f g named also owner other fits fit is =
    let numbers : decimal a ≡ decimal b = cc in
    record { kind = cc; blocks = decimal_injective a b fits fit numbers; file = cc }

not_host : (name : List ℕ) (k : DriveKind) (a : ℕ) (f : List ℕ) → codes "host" ∷ name ∷ [] ≡ drive_words k a f → ⊥
not_host name (Own d s) a f is = cc
not_host name (Shared d) a f is = cc
not_host name (Mediator s) a f is = cc

not_slice : (name : List ℕ) (ws : List (List ℕ)) (k : DriveKind) (a : ℕ) (f : List ℕ) → codes "slice" ∷ name ∷ ws ≡ drive_words k a f → ⊥
not_slice name ws (Own d s) a f is = let bytes : 115 ≡ 100 = ap (λ (l : List (List ℕ)). get_or (get_or l 0 []) 0 0) is in omega (arith, bytes)
not_slice name ws (Shared d) a f is = let bytes : 115 ≡ 100 = ap (λ (l : List (List ℕ)). get_or (get_or l 0 []) 0 0) is in omega (arith, bytes)
not_slice name ws (Mediator s) a f is = let bytes : 115 ≡ 109 = ap (λ (l : List (List ℕ)). get_or (get_or l 0 []) 0 0) is in omega (arith, bytes)

same_db : (b c : Bool) → db_words b ≡ db_words c → b ≡ c
same_db true true is = refl
same_db true false is = cc
same_db false true is = cc
same_db false false is = refl

pub one_entry : (d e : Entry) → IsEntry d → IsEntry e → entry_words d ≡ entry_words e → d ≡ e
one_entry (Host a) (Host b) form also is = cc
one_entry (Host a) (Drive e) form also is = absurd (not_host a e.kind e.blocks e.file is)
one_entry (Host a) (Slice t) form also is = cc
one_entry (Drive d) (Host b) form also is = absurd (not_host b d.kind d.blocks d.file (sym is))
one_entry (Drive d) (Drive e) form also is =
    let same = same_drive d.kind e.kind d.blocks e.blocks d.file e.file form.kind also.kind form.owner also.owner (omega (arith, form.most)) (omega (arith, also.most)) is in
    λ i. Drive (record { kind = same.kind i; blocks = same.blocks i; file = same.file i })
one_entry (Drive d) (Slice t) form also is = absurd (not_slice (slice_text t.name) (decimal t.start ∷ decimal t.blocks ∷ db_words t.db) d.kind d.blocks d.file (sym is))
one_entry (Slice s) (Host b) form also is = cc
one_entry (Slice s) (Drive e) form also is = absurd (not_slice (slice_text s.name) (decimal s.start ∷ decimal s.blocks ∷ db_words s.db) e.kind e.blocks e.file is)
one_entry (Slice s) (Slice t) form also is =
    let names : slice_text s.name ≡ slice_text t.name = cc in
    let starts : decimal s.start ≡ decimal t.start = cc in
    let sizes : decimal s.blocks ≡ decimal t.blocks = cc in
    let dbs : db_words s.db ≡ db_words t.db = cc in
    let name = slice_text_injective s.name t.name form.name also.name names in
    let start = decimal_injective s.start t.start form.start also.start starts in
    let blocks = decimal_injective s.blocks t.blocks form.blocks also.blocks sizes in
    let db = same_db s.db t.db dbs in
    λ i. Slice (record { name = name i; start = start i; blocks = blocks i; db = db i })

-- so what a line adds is what its one entry adds
pub line_answer :
    (g h : Geometry) (line : List ℕ) (e : Entry) (b : Bool) → (CountsForNothing line → ⊥) → IsEntry e → words (content line) ≡ entry_words e →
    MatchBool b (Adds g e h) ((k : Geometry) → Adds g e k → ⊥) → MatchBool b (AddsLine g line h) ((k : Geometry) → AddsLine g line k → ⊥)
line_answer g h line e true counts form spelled answer = inr (e, form, spelled, answer)
line_answer g h line e false counts form spelled answer = λ k adds.
    elim adds [
      | inl nothing ↦ counts nothing.0
      | inr some ↦ answer k (subst (λ (d : Entry). Adds g d k) (one_entry some.0 e some.1 form (sym some.2 ∙ spelled)) some.3)
    ]
