-- The whole of a record: its head, its length, and the body behind them.
use Rattle.std.proofs.Common.{◌≡◌, ◌<◌, ◌+◌, ◌^◌, ℕ, refl, sym, ◌∙◌, ap, subst, List, [], ◌++◌, append_assoc, length, Ok, Err, codes, arith}
use Rattle.std.proofs.lemmas.List.{append-nil}
use Rattle.std.specs.Prelude.{AllPairs}
use Rattle.mdv_fields.specs.Numbers.{u32_text}
use Rattle.mdv_fields.specs.Reading.{Reads, LongFits, long_text}
use Rattle.mdv_fields.specs.declared.fault.RecordError.{RecordError}
use Rattle.mdv_fields.specs.declared.fault.RecordError.TheVariants.{NotARecord}
use Rattle.mdv_fields.proofs.Fields.{same_fronts}
use Rattle.mdv_codec.specs.Record.{IsBehindPool, IsBehindVolume, FrontFits, front_text, RisingFits, BodyFits, body_text, Any, head_text, record_text, IsRecord, IsRead}
use Rattle.mdv_codec.specs.Recorded.{PoolPartFits, pool_part_text, VolumeFits, volume_text}
use Rattle.mdv_codec.specs.declared.recorded.Recorded.{Recorded}
use Rattle.mdv_codec.specs.declared.recorded.RecordedFront.{RecordedFront}
use Rattle.mdv_codec.specs.declared.recorded.RecordedPool.{RecordedPool}
use Rattle.mdv_codec.specs.declared.recorded.RecordedVolume.{RecordedVolume}

pub length-record_text : (r : Recorded) → length (record_text r) ≡ 12 + length (body_text r)
unfolding record_text head_text u32_text
length-record_text r = omega (arith)

length-sized : (n : ℕ) (r : Recorded) → length (head_text tt ++ (u32_text n ++ body_text r)) ≡ 12 + length (body_text r)
unfolding head_text u32_text
length-sized n r = omega (arith)

-- the head is there, or it isn't
pub head_is : {field old new : List ℕ} → field ≡ codes "MDVREC01" → old ≡ field ++ new → Reads Any head_text old (Ok tt) new
unfolding head_text
head_is {field} {old} {new} is split = record {
  read = (tt, split ∙ ap (λ (l : List ℕ). l ++ new) is);
  spelled = λ u rest always spelled. (refl, (same_fronts field (codes "MDVREC01") new rest (ap length is) (sym split ∙ spelled)).1);
}

pub head_other : {field old new : List ℕ} → length field ≡ 8 → (field ≡ codes "MDVREC01" → ⊥) → old ≡ field ++ new → Reads Any head_text old (Err NotARecord) new
unfolding head_text
head_other {field} {old} {new} long other split = record {
  read = tt;
  spelled = λ u rest always spelled. absurd (other (same_fronts field (codes "MDVREC01") new rest long (sym split ∙ spelled)).0);
}

pub head_short : {old new : List ℕ} {e : RecordError} → length old < 8 → Reads Any head_text old (Err e) new
unfolding head_text
head_short short = record { read = tt; spelled = λ u rest always spelled. absurd (omega (arith, ap length spelled)) }

-- no head
pub unread_head : {bytes new : List ℕ} {e : RecordError} → Reads Any head_text bytes (Err e) new → IsRead bytes (Err e)
unfolding record_text
unread_head head = record { read = tt; spelled = λ r is spelled. head.spelled tt (u32_text (12 + length (body_text r)) ++ body_text r) tt spelled }

module _ {bytes one : List ℕ} (head : Reads Any head_text bytes (Ok tt) one) where
  behind_head : (r : Recorded) → bytes ≡ record_text r → one ≡ u32_text (12 + length (body_text r)) ++ body_text r
  unfolding record_text
  behind_head r spelled = (head.spelled tt (u32_text (12 + length (body_text r)) ++ body_text r) tt spelled).1

  pub unread_size : {new : List ℕ} {e : RecordError} → Reads (λ n. n < 256 ^ 4) u32_text one (Err e) new → IsRead bytes (Err e)
  unread_size size = record { read = tt; spelled = λ r is spelled. size.spelled (12 + length (body_text r)) (body_text r) is.short (behind_head r spelled) }

  module _ {two : List ℕ} {n : ℕ} (size : Reads (λ n. n < 256 ^ 4) u32_text one (Ok n) two) where
    behind_size : (r : Recorded) → IsRecord r → bytes ≡ record_text r → (n ≡ 12 + length (body_text r)) × (two ≡ body_text r ++ [])
    behind_size r is spelled =
        let both = size.spelled (12 + length (body_text r)) (body_text r) is.short (behind_head r spelled) in
        (both.0, both.1 ∙ sym (append-nil (body_text r)))

    -- the length is another, the body isn't read, or something stands behind it
    pub other_size : (n ≡ length bytes → ⊥) → IsRead bytes (Err NotARecord)
    other_size other = record { read = tt; spelled = λ r is spelled. absurd (other ((behind_size r is spelled).0 ∙ sym (ap length spelled ∙ length-record_text r))) }

    pub unread_body : {new : List ℕ} {e : RecordError} → Reads BodyFits body_text two (Err e) new → IsRead bytes (Err e)
    unread_body body = record { read = tt; spelled = λ r is spelled. body.spelled r [] is.fits (behind_size r is spelled).1 }

    module _ {last : List ℕ} {r : Recorded} (body : Reads BodyFits body_text two (Ok r) last) where
      pub more_behind : (last ≡ [] → ⊥) → IsRead bytes (Err NotARecord)
      more_behind more = record { read = tt; spelled = λ s is spelled. absurd (more (body.spelled s [] is.fits (behind_size s is spelled).1).1) }

      pub whole : n ≡ length bytes → last ≡ [] → IsRead bytes (Ok r)
      unfolding record_text
      whole long empty =
          let text : two ≡ body_text r = body.read.1 ∙ ap (λ (l : List ℕ). body_text r ++ l) empty ∙ append-nil (body_text r) in
          let all : bytes ≡ head_text tt ++ (u32_text n ++ body_text r) = head.read.1 ∙ ap (λ (l : List ℕ). head_text tt ++ l) (size.read.1 ∙ ap (λ (l : List ℕ). u32_text n ++ l) text) in
          let size_is : n ≡ 12 + length (body_text r) = long ∙ ap length all ∙ length-sized n r in
          record {
            read = (record { fits = body.read.0; short = subst (λ (k : ℕ). k < 256 ^ 4) size_is size.read.0 }, all ∙ ap (λ (k : ℕ). head_text tt ++ (u32_text k ++ body_text r)) size_is);
            spelled = λ s is spelled. (body.spelled s [] is.fits (behind_size s is spelled).1).0;
          }

-- a list that is read, and ascends or doesn't
module _ {A : Type 0} {F : A → Type 0} {below : A → A → Type 0} (text : A → List ℕ) {most : ℕ} {old new : List ℕ} where
  pub rising_is : {xs : List A} → Reads (LongFits F most) (long_text text) old (Ok xs) new → AllPairs below xs → Reads (RisingFits F below most) (long_text text) old (Ok xs) new
  rising_is list up = record {
    read = (record { list = list.read.0; ascending = up }, list.read.1);
    spelled = λ ys rest fits is. list.spelled ys rest fits.list is;
  }

  pub rising_not : {xs : List A} → Reads (LongFits F most) (long_text text) old (Ok xs) new → (AllPairs below xs → ⊥) → Reads (RisingFits F below most) (long_text text) old (Err NotARecord) new
  rising_not list down = record {
    read = tt;
    spelled = λ ys rest fits is. absurd (down (subst (AllPairs below) (sym (list.spelled ys rest fits.list is).0) fits.ascending));
  }

  pub rising_none : {e : RecordError} → Reads (LongFits F most) (long_text text) old (Err e) new → Reads (RisingFits F below most) (long_text text) old (Err e) new
  rising_none list = record { read = tt; spelled = λ ys rest fits is. list.spelled ys rest fits.list is }

-- front, pools and volumes, one behind another
module _ {old one two : List ℕ} {f : RecordedFront} {ps : List RecordedPool} (front : Reads FrontFits front_text old (Ok f) one) (pools : Reads (RisingFits PoolPartFits IsBehindPool 1000) (long_text pool_part_text) one (Ok ps) two) where
  behind_pools : (r : Recorded) (rest : List ℕ) → BodyFits r → old ≡ body_text r ++ rest → (f ≡ r.front) × (ps ≡ r.pools) × (two ≡ long_text volume_text r.volumes ++ rest)
  unfolding body_text
  behind_pools r rest fits is =
      let pool = long_text pool_part_text r.pools in
      let volume = long_text volume_text r.volumes in
      let a = front.spelled r.front ((pool ++ volume) ++ rest) fits.front (is ∙ append_assoc (front_text r.front) (pool ++ volume) rest) in
      let b = pools.spelled r.pools (volume ++ rest) fits.pools (a.1 ∙ append_assoc pool volume rest) in
      (a.0, b.0, b.1)

  pub body_is : {new : List ℕ} {vs : List RecordedVolume} → Reads (RisingFits VolumeFits IsBehindVolume 8192) (long_text volume_text) two (Ok vs) new → Reads BodyFits body_text old (Ok (record { front = f; pools = ps; volumes = vs })) new
  unfolding body_text
  body_is {new} {vs} volumes =
      let pool = long_text pool_part_text ps in
      let volume = long_text volume_text vs in
      record {
        read = (
          record { front = front.read.0; pools = pools.read.0; volumes = volumes.read.0 },
          front.read.1
              ∙ ap (λ (l : List ℕ). front_text f ++ l) (pools.read.1 ∙ ap (λ (l : List ℕ). pool ++ l) volumes.read.1 ∙ sym (append_assoc pool volume new))
              ∙ sym (append_assoc (front_text f) (pool ++ volume) new),
        );
        spelled = λ r rest fits is.
            let a = behind_pools r rest fits is in
            let b = volumes.spelled r.volumes rest fits.volumes a.2 in
            (λ i. record { front = a.0 i; pools = a.1 i; volumes = b.0 i }, b.1);
      }

  pub no_volumes : {new : List ℕ} {e : RecordError} → Reads (RisingFits VolumeFits IsBehindVolume 8192) (long_text volume_text) two (Err e) new → Reads BodyFits body_text old (Err e) new
  no_volumes volumes = record { read = tt; spelled = λ r rest fits is. volumes.spelled r.volumes rest fits.volumes (behind_pools r rest fits is).2 }
