-- What encoding tells, whatever bytes a format lays for the row: the tests that it passed, and that these bytes are the answer.
use Rattle.std.specs.Prelude.{ℕ, ◌+◌, ◌≡◌, List, ltb, length}
use Rattle.std.proofs.Common.{ltb-false}
use Rattle.layout.specs.Res.{Res, ok, bind, ◌when◌else◌}
use Rattle.layout.specs.Limits.{max_value}
use Rattle.layout.specs.Row.{Fields, value_of, key_length_tests, length_tests, Typed}
use Rattle.layout.proofs.Laws.Res.{bind-then, guard-then, ok-inj}
use Rattle.layout.specs.Laws.Row.{FieldsOk}
use Rattle.layout.proofs.Laws.Tells.{key_length_tests-tells}
use Rattle.layout.specs.Laws.Encoded.{Encoded}

-- the tests of encoding, in their order
abbrev pub encode_tests : List ℕ → ℕ → ℕ → List ℕ → Fields → ℕ → Res (List ℕ)
encode_tests bytes prev_len shared suffix f room =
    13 when ltb prev_len shared else
    bind (length_tests (shared + length suffix) (length (value_of f))) λ _.
    6 when ltb room (length bytes) else
    ok bytes

pub tests-tell : (bytes : List ℕ) (prev_len shared : ℕ) (suffix : List ℕ) (f : Fields) (room : ℕ) (w : List ℕ) → encode_tests bytes prev_len shared suffix f room ≡ ok w
    → Encoded bytes prev_len shared suffix f w
unfolding length_tests
tests-tell bytes prev_len shared suffix f room w e =
    guard-then (ltb prev_len shared) 13 _ w e λ t₁ e₁.
    bind-then (length_tests (shared + length suffix) (length (value_of f))) _ w e₁ λ u l e₂.
    guard-then (ltb room (length bytes)) 6 _ w e₂ λ t₂ e₃.
    bind-then (key_length_tests (shared + length suffix)) _ u l λ u₂ k l₂.
    guard-then (ltb max_value (length (value_of f))) 3 _ u l₂ λ t₃ l₃.
    let q = key_length_tests-tells (shared + length suffix) u₂ k in
    record {
      is = ok-inj e₃;
      shares = ltb-false prev_len shared t₁;
      key-ok = record { some = q.0; fits = q.1 };
      value-fits = ltb-false max_value (length (value_of f)) t₃;
    }

pub encoded_fields : {bytes : List ℕ} {prev_len shared : ℕ} {suffix : List ℕ} {f : Fields} {w : List ℕ} → Encoded bytes prev_len shared suffix f w → Typed f → FieldsOk f
encoded_fields e t = record { value-fits = e.value-fits; seq-fits = t.seq-fits; expire-fits = t.expire-fits; create-fits = t.create-fits }
