-- A row whose flags are 0, written part by part: its bytes are three lengths, the suffix, the value, the sequence number and a 0, one after another, and room for all is room for
-- each where the one before it ended. And a key put over the last one by its suffix alone: the bytes that it shares lie there already.
use Prim.Native.Nat.{ℕ, ◌+◌, ◌-◌, ◌≤◌, ◌<◌}
use mathlib.Core.Path.{◌≡◌, refl, ap, sym, ◌∙◌}
use mathlib.Core.Bool.{Bool, true, false}
use mathlib.Core.List.{List, ◌++◌, append_assoc}
use native.Mathlib.Nat.{zero-add}
use native.Mathlib.Omega.{arith}
use lib.ListN.{length, take, drop, set, length-append, length-take, length-drop}
use lib.Seq.{take_all, take-take}
use Rattle.layout.specs.Res.{ok}
use Rattle.layout.specs.Block.{share_of}
use Rattle.layout.specs.Fixed.{big}
use Rattle.layout.specs.Key.{Key}
use Rattle.layout.specs.Place.{splice}
use Rattle.layout.specs.Row.{Kind, value, tombstone, merge, Time, Absent, At, present, flags_of, time_bytes, row_bytes, length_tests}
use Rattle.layout.specs.RowRead.{may_share}
use Rattle.layout.specs.Varint.{varint}
use Rattle.layout.proofs.Laws.Block.{shares-is}
use Rattle.layout.proofs.Laws.Fixed.{length-big}
use Rattle.layout.proofs.Laws.RowExits.{size_is}
use Rattle.layout.proofs.Laws.RowWrite.{size-tells}
use Rattle.layout.specs.Laws.Splice.{Wrote}
use Rattle.layout.proofs.Laws.Splice.{wrote_then, wrote-length, wrote-set}
use Rattle.basics.specs.Says.{says_kind, says_time}
use Rattle.basics.specs.declared.Refusal.{Refusal}
use Rattle.std.specs.Prelude.{Result}
use Rattle.buf_mut.specs.Promise.{Puts}
use Rattle.buf_mut.proofs.Laws.{copied, room-first, room_next}
use Rattle.row_flags.specs.Promise.{Flagged}
use Rattle.row_flags.specs.Says.{fields_from}
use Rattle.row_flags.specs.declared.RowFields.{RowFields}
use Rattle.build_in_place_v2.specs.Plan.{Fitting, plain_body, plain_bytes, PlainFits}

-- ---- flags of 0

module _ (k : Kind) (e c : Time) where
  none-value : flags_of k (present e) (present c) ≡ 0 → k ≡ value
  none-value z = go k z
    where
      go : (k : Kind) → flags_of k (present e) (present c) ≡ 0 → k ≡ value
      go value z = refl
      go tombstone z = absurd (omega (arith, z))
      go merge z = absurd (omega (arith, z))

plain_row_lem : (k : Kind) (e c : Time) (shared : ℕ) (suffix v : List ℕ) (seq : ℕ) → flags_of k (present e) (present c) ≡ 0
    → row_bytes shared suffix (record { kind = k; val = v; seq = seq; expire = e; create = c }) ≡ plain_bytes shared suffix v seq
unfolding row_bytes time_bytes
plain_row_lem value Absent Absent shared suffix v seq z = refl
plain_row_lem value Absent (At t) shared suffix v seq z = absurd (omega (arith, z))
plain_row_lem value (At t) c shared suffix v seq z = absurd (omega (arith, z))
plain_row_lem tombstone e c shared suffix v seq z = absurd (omega (arith, z))
plain_row_lem merge e c shared suffix v seq z = absurd (omega (arith, z))

module _ (row : RowFields) {n : ℕ} (flagged : Flagged row n) (none : n ≡ 0) where
  zero_flags : flags_of (says_kind row.kind) (present (says_time row.expire)) (present (says_time row.create)) ≡ 0
  zero_flags = sym flagged ∙ none

  pub plain-bytes : (shared : ℕ) (suffix v : List ℕ) → row_bytes shared suffix (fields_from row v) ≡ plain_bytes shared suffix v row.seq
  plain-bytes shared suffix v = plain_row_lem (says_kind row.kind) (says_time row.expire) (says_time row.create) shared suffix v row.seq zero_flags

  -- what the writer of such a row needs
  pub plain_fits : {bytes : List ℕ} {used last_len shared : ℕ} {key v : List ℕ} → Fitting bytes used last_len shared key (fields_from row v)
      → PlainFits bytes used shared key v row.seq
  plain_fits {bytes} {used} {last_len} {shared} {key} {v} w =
      let is : says_kind row.kind ≡ value = none-value _ (says_time row.expire) (says_time row.create) zero_flags in
      let tested : length_tests (shared + length (drop shared key)) (length v) ≡ ok tt = rw is at w.tested in
      let t = size-tells shared (length (drop shared key)) value (length v) false false (sym (size_is shared (length (drop shared key)) value (length v) false false tested)) in
      record {
        own = w.own;
        key-small = omega (arith, t.key-small, length-drop shared key, w.own);
        value-small = omega (arith, t.value-small);
        room = rw (plain-bytes shared (drop shared key) v) at w.room;
      }

-- ---- part by part

-- a put that had room, by the place after it
put-at : {xs ys w : List ℕ} {at n : ℕ} {p : Result ℕ Refusal} → at + length w ≤ length xs → n ≡ at + length w → Puts w xs at p ys → Wrote xs at w ys n
put-at h e q = record { is = copied h q; next = e; room = omega arith }

-- the suffix, of k bytes, the value, the sequence number and a 0
module _ (xs : List ℕ) (at : ℕ) (suffix v : List ℕ) (seq k : ℕ) (is : k ≡ length suffix) (room : at + length (plain_body suffix v seq) ≤ length xs) where
  pub body-ends : at + k + length v + 9 ≤ length xs
  body-ends =
      let long : length (plain_body suffix v seq) ≡ length suffix + (length v + 9) = simp length-append (omega (arith, length-big 8 seq)) in
      omega (arith, long)

  module _ {ys zs us : List ℕ} {p q r : Result ℕ Refusal} (x : Puts suffix xs at p ys) (y : Puts v ys (at + k) q zs) (z : Puts (big 8 seq) zs (at + k + length v) r us) where
    one : Wrote xs at suffix ys (at + k)
    one = put-at (omega (arith, body-ends)) (omega arith) x

    two : Wrote ys (at + k) v zs (at + k + length v)
    two = put-at (omega (arith, body-ends, wrote-length one)) refl y

    three : Wrote zs (at + k + length v) (big 8 seq) us (at + k + length v + 8)
    three = put-at (omega (arith, body-ends, length-big 8 seq, wrote-length one, wrote-length two)) (omega (arith, length-big 8 seq)) z

    pub flags-room : at + k + length v + 8 < length us
    flags-room = omega (arith, body-ends, wrote-length one, wrote-length two, wrote-length three)

    pub body-wrote : Wrote xs at (plain_body suffix v seq) (set us (at + k + length v + 8) 0) (at + k + length v + 9)
    body-wrote =
        let four = wrote-set us (at + k + length v + 8) 0 flags-room in
        let end : at + k + length v + 8 + 1 ≡ at + k + length v + 9 = omega arith in
        rw end at (wrote_then one (wrote_then two (wrote_then three four)))

module _ {bytes : List ℕ} {used shared : ℕ} {key v : List ℕ} {seq : ℕ} (w : PlainFits bytes used shared key v seq) where
  abbrev cut : List ℕ
  cut = take (length key - shared) (drop shared key)

  cut-is : cut ≡ drop shared key
  cut-is = take_all (length key - shared) (drop shared key) (rw (length-drop shared key) (omega arith))

  pub cut-length : length key - shared ≡ length cut
  cut-length = sym (length-drop shared key) ∙ ap length (sym cut-is)

  -- as the code has it
  abbrev parts : List ℕ
  parts = varint shared ++ (varint (length key - shared) ++ (varint (length v) ++ plain_body cut v seq))

  parts_are : parts ≡ plain_bytes shared (drop shared key) v seq
  parts_are = rw (cut-is, length-drop shared key)

  room : used + length parts ≤ length bytes
  room = rw parts_are w.room

  pub first-room : used + length (varint shared) ≤ length bytes
  first-room = room-first used (varint shared) (varint (length key - shared) ++ (varint (length v) ++ plain_body cut v seq)) room

  module _ {ys : List ℕ} {a : ℕ} (p : Wrote bytes used (varint shared) ys a) where
    second : a + length (varint (length key - shared) ++ (varint (length v) ++ plain_body cut v seq)) ≤ length ys
    second = room_next (varint (length key - shared) ++ (varint (length v) ++ plain_body cut v seq)) p room

    pub second-room : a + length (varint (length key - shared)) ≤ length ys
    second-room = room-first a (varint (length key - shared)) (varint (length v) ++ plain_body cut v seq) second

    module _ {zs : List ℕ} {b : ℕ} (q : Wrote ys a (varint (length key - shared)) zs b) where
      third : b + length (varint (length v) ++ plain_body cut v seq) ≤ length zs
      third = room_next (varint (length v) ++ plain_body cut v seq) q second

      pub third-room : b + length (varint (length v)) ≤ length zs
      third-room = room-first b (varint (length v)) (plain_body cut v seq) third

      module _ {us : List ℕ} {c : ℕ} (r : Wrote zs b (varint (length v)) us c) where
        pub body-room : c + length (plain_body cut v seq) ≤ length us
        body-room = room_next (plain_body cut v seq) r third

        pub ends-room : c + (length key - shared) + length v + 9 ≤ length us
        ends-room = body-ends us c cut v seq (length key - shared) cut-length body-room

        pub plain-wrote : {out : List ℕ} {n : ℕ} → Wrote us c (plain_body cut v seq) out n → Wrote bytes used (plain_bytes shared (drop shared key) v seq) out n
        plain-wrote t = rw parts_are at (wrote_then p (wrote_then q (wrote_then r t)))

-- ---- the last key

may : (t : Bool) (n : ℕ) → may_share t n ≤ n
may true n = omega arith
may false n = omega arith

-- the suffix after the bytes that are shared is the whole key over the start
pub over_last : (last : List ℕ) (last_len : ℕ) (restart : Bool) (key : Key) {shared : ℕ} → shared ≡ share_of restart (take last_len last) key
    → splice last shared (drop shared key) ≡ splice last 0 key
unfolding splice
over_last last last_len restart key {shared} e =
    let o = shares-is restart (take last_len last) key in
    let s = share_of restart (take last_len last) key in
    let h : s ≤ last_len = omega (arith, o.may, may restart (length (take last_len last)), length-take last_len last) in
    let front : take s last ++ drop s key ≡ key = rw (take-take s last_len last h) at o.makes in
    rw e
    (sym (append_assoc (take s last) (drop s key) (drop (s + length (drop s key)) last))
    ∙ (λ k. front k ++ drop (o.whole k) last)
    ∙ ap (λ (n : ℕ). key ++ drop n last) (sym (zero-add (length key))))
