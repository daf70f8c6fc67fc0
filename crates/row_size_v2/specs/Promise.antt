-- What each public function promises: equations to the definitions of `layout`, that settle each number answered and each byte lent.
use Rattle.std.specs.Prelude.{ℕ, ◌+◌, ◌≡◌, ℤ, List, length, Option, Result}
use Rattle.layout.specs.Res.{Res, ok, bind}
use Rattle.layout.specs.Row.{present, key_length_tests, size_alone, written, restore_key}
use Rattle.basics.specs.Answers.{says_same}
use Rattle.basics.specs.Says.{says_kind, says_time}
use Rattle.basics.specs.declared.Kind.{Kind}
use Rattle.basics.specs.declared.Refusal.{Refusal}

-- the length of a key that passed its tests
abbrev pub key_length : ℕ → Res ℕ
key_length n = bind (key_length_tests n) λ _. ok n

abbrev pub TestsKey : ℕ → ℕ → Result ℕ Refusal → Type 0
TestsKey shared suffix_len r = says_same r ≡ key_length (shared + suffix_len)

abbrev pub Sizes : ℕ → ℕ → Kind → ℕ → Option ℤ → Option ℤ → Result ℕ Refusal → Type 0
Sizes shared suffix_len kind value_len expire create r =
    says_same r ≡ size_alone shared suffix_len (says_kind kind) value_len (present (says_time expire)) (present (says_time create))

-- bytes that are wanted at the start of a lent buffer: their count or the refusal is answered, and no other byte changes
pub record Lays (want : Res (List ℕ)) (buf : List ℕ) (said : Res ℕ) (buf' : List ℕ) : Type 0 where
  pub answer : said ≡ bind want λ w. ok (length w)
  pub bytes : buf' ≡ written want buf

abbrev pub Restores : List ℕ → ℕ → List ℕ → List ℕ → Result ℕ Refusal → List ℕ → Type 0
Restores prev shared suffix out r out' = Lays (restore_key prev shared suffix (length out)) out (says_same r) out'
