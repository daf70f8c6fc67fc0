-- What a cursor is to the definitions when its key bytes lie apart.
use Rattle.std.specs.Prelude.{ℕ, ◌≡◌, List, take}
use Rattle.std.proofs.Common.{ap, ◌∙◌}
use Rattle.layout.specs.Cursor.{Cursor}
use Rattle.basics.specs.Says.{says_order, says_order-one}
use Rattle.place_v2.specs.declared.Place.{Place}

-- the cursor of a place and of the bytes that its key lies in
abbrev pub view_in : Place → List ℕ → Cursor
view_in p key =
    record {
      order = says_order p.order;
      region = p.region;
      at = p.at;
      number = p.number;
      key_len = p.key_len;
      key = take p.key_len key;
      done = p.done;
    }

-- ---- one to one

-- two places that are known as one, whatever bytes lie beside them
pub view_in-one : (p q : Place) (k l : List ℕ) → view_in p k ≡ view_in q l → p ≡ q
view_in-one p q k l e =
    let o = says_order-one p.order q.order (ap (λ (x : Cursor). x.order) e) in
    ap (λ (x : Cursor). record { order = p.order; region = x.region; at = x.at; number = x.number; key_len = x.key_len; done = x.done }) e ∙ rw o
