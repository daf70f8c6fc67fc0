-- Each promise admits one outcome: codes, words and bytes.
use Rattle.std.specs.Prelude.{ℕ, ◌≡◌, List, ℤ, Option}
use Rattle.std.proofs.Common.{sym, ◌∙◌}
use Rattle.journal.specs.declared.Record.{Record}
use Rattle.slatedb_journal.specs.Promise.{FindsFlat, ReadsFlat, BalancesFlat, AppendsFlat}

module _ (d : List ℕ) where
  pub journal_record_at-settled : (at : ℕ) (ws : List ℕ) (c e : ℕ) (xs ys : List ℕ) → FindsFlat d at ws c xs → FindsFlat d at ws e ys → (c ≡ e) × (xs ≡ ys)
  journal_record_at-settled at ws c e xs ys a b = (a.answer ∙ sym b.answer, a.words ∙ sym b.words)

  pub journal_read-settled : (n p c e m o q s : ℕ) → ReadsFlat d n p c m q → ReadsFlat d n p e o s → (c ≡ e) × (m ≡ o) × (q ≡ s)
  journal_read-settled n p c e m o q s a b = (a.answer ∙ sym b.answer, a.count ∙ sym b.count, a.place ∙ sym b.place)

  pub journal_balance_settled : (card : ℕ) (z : ℤ) (p c e : ℕ) (y x : ℤ) (q s : ℕ) → BalancesFlat d card z p c y q → BalancesFlat d card z p e x s → (c ≡ e) × (y ≡ x) × (q ≡ s)
  journal_balance_settled card z p c e y x q s a b = (a.answer ∙ sym b.answer, a.sum ∙ sym b.sum, a.place ∙ sym b.place)

pub journal_append-settled : (buffer : List ℕ) (used : ℕ) (offer : Option Record) (p c e : ℕ) (ys zs : List ℕ) (q s : ℕ) → AppendsFlat buffer used offer p c ys q → AppendsFlat buffer used offer p e zs s
    → (c ≡ e) × (ys ≡ zs) × (q ≡ s)
journal_append-settled buffer used offer p c e ys zs q s a b = (a.answer ∙ sym b.answer, a.bytes ∙ sym b.bytes, a.place ∙ sym b.place)
