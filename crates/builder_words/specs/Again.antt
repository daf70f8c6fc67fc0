-- What a call left in words and bytes is, to the next call, the builder that it left: so the demands, which hand on builders, hold of a chain of calls over lent
-- words. The words of a builder read back as it where the bytes beside them begin with its last key; and each call that leaves one leaves such bytes.
use Rattle.std.specs.Prelude.{ℕ, ◌≡◌, List, length, take}
use Rattle.std.proofs.Common.{ap, sym, arith}
use Rattle.layout.specs.Res.{ok}
use Rattle.layout.specs.Builder.{Builder, add}
use Rattle.layout.specs.Key.{Key}
use Rattle.layout.specs.Limits.{max_key}
use Rattle.layout.proofs.Laws.Made.{add-tells}
use Rattle.layout.proofs.Laws.Splice.{key-over}
use Rattle.layout.specs.Place.{splice}
use Rattle.row_words.specs.Words.{builder_from, builder_words}
use Rattle.builder_words.specs.Says.{Gain}
use Rattle.builder_words.specs.Exports.{AddsAs}

pub builder-again : (v : Builder) (last : List ℕ) → take v.last_key_len last ≡ v.last_key_of → builder_from (builder_words v) last ≡ v
builder-again v last h =
    ap (λ (k : List ℕ). record { block_size = v.block_size; restart_interval = v.restart_interval; used = v.used; restarts = v.restarts; counter = v.counter; last_key_len = v.last_key_len; last_key_of = k }) h

-- after a row was added, the next call reads the builder that has it
pub add-again : (g : Gain) (v : Builder) (key : Key) (data_len places_len : ℕ) (ws last bytes places : List ℕ) (code : ℕ) (ws' last' bytes' places' : List ℕ)
    → add v data_len places_len key g.fields ≡ ok g.builder → length last ≡ max_key → AddsAs (ok g) v key ws last bytes places code ws' last' bytes' places'
    → builder_from ws' last' ≡ g.builder
add-again g v key data_len places_len ws last bytes places code ws' last' bytes' places' e long h =
    let a = add-tells v data_len places_len key g.fields g.builder e in
    let over : take (length key) (splice last 0 key) ≡ key = key-over last key (omega (arith, a.key_fits)) in
    let same : take g.builder.last_key_len (splice last 0 key) ≡ g.builder.last_key_of = rw (sym a.is) over in
    rw (h.state, h.last-after) (builder-again g.builder (splice last 0 key) same)
