-- Cases of rows of the earlier format, in a single list; `cases-hold` is the one fact over it, by computation against the definitions.
use Rattle.std.specs.Prelude.{ℕ, ◌-◌, ◌≡◌, refl, false, List, [], ◌∷◌, ◌++◌, pos, negsuc, length, take, drop, replicate}
use Rattle.layout.specs.Bytes.{Bytes}
use Rattle.layout.specs.Res.{Res, ok, refuse, bind}
use Rattle.layout.specs.Fixed.{big, unbig, bits, unbits}
use Rattle.layout.specs.Place.{fixed_at}
use Rattle.layout.specs.Key.{Key, common}
use Rattle.layout.specs.Row.{Kind, value, tombstone, merge, Time, Absent, At, Fields, Row, present, time_bytes, key_length_tests, length_tests, plain}
use Rattle.layout.specs.RowRead.{head_tests, flags_at, time_at, times_at, RowRead, key_of, fields_of}
use Rattle.layout.specs.Cases.{number_of}
use Rattle.layout_v1.specs.Row.{row_bytes, row_size, size_alone, encode_row}
use Rattle.layout_v1.specs.RowRead.{head_at, body_at, value_at, held_at, row_at, read_row, decode_row, read_key}
use Rattle.layout_v1.specs.Block.{laid_row}

abbrev pub fields_is : Kind → Bytes → ℕ → Time → Time → Fields
fields_is kind val seq expire create = record { kind = kind; val = val; seq = seq; expire = expire; create = create }

abbrev pub row_of : Key → Fields → Row
row_of key f = record { key = key; fields = f }

-- the row that stands at the places
abbrev pub read_back : Bytes → Key → RowRead → Res Row
read_back d first r = ok (row_of (key_of d first r) (fields_of d r))

pub data Case : Type 0 where
  -- a row after a first key, with which it shares all it can: its bytes, as many as its size says; they are encoded, and are read back as the row
  lays : Key → Key → Fields → Bytes → Case
  -- share, suffix length, kind and offered value length: the size
  sizes : ℕ → ℕ → Kind → ℕ → Res ℕ → Case
  -- a row with an empty value after a first key of so many bytes, by its share and suffix, into a buffer of so many: the refusal, 0 for none
  encodes : ℕ → ℕ → Bytes → ℕ → ℕ → Case
  -- a single row's bytes after a first key of so many bytes: the refusal, 0 for none
  decodes : Bytes → ℕ → ℕ → Case
  -- the row at the start of the data, where the next one starts, and how many bytes it may share: the refusal of the row and of its key alone, 0 for none
  stands_in : Bytes → ℕ → ℕ → ℕ → ℕ → Case

abbrev pub Holds : Case → Type 0
Holds (lays first key f bytes) =
    (laid_row first key f ≡ bytes)
    × (size_alone (common first key) (length key - common first key) f.kind (length f.val) (present f.expire) (present f.create) ≡ ok (length bytes))
    × (encode_row (length first) (common first key) (drop (common first key) key) f (length bytes) ≡ ok bytes)
    × (bind (decode_row bytes (length first)) (read_back bytes first) ≡ ok (row_of key (plain f)))
Holds (sizes shared suffix_len kind offered answer) = size_alone shared suffix_len kind offered false false ≡ answer
Holds (encodes first_len shared suffix room n) = number_of (encode_row first_len shared suffix (fields_is value [] 1 Absent Absent) room) ≡ n
Holds (decodes bytes first_len n) = number_of (decode_row bytes first_len) ≡ n
Holds (stands_in d end most n k) = (number_of (read_row d 0 end most) ≡ n) × (number_of (read_key d 0 end most) ≡ k)

abbrev pub AllHold : List Case → Type 0
AllHold [] = Unit {0}
AllHold (c ∷ cs) = Holds c × AllHold cs

abbrev key_a : Key
key_a = 97 ∷ []

abbrev bytes_a : Bytes
bytes_a = 0 ∷ 0 ∷ 0 ∷ 1 ∷ 97 ∷ 0 ∷ 0 ∷ 0 ∷ 0 ∷ 0 ∷ 0 ∷ 0 ∷ 1 ∷ 0 ∷ 0 ∷ 0 ∷ 0 ∷ 0 ∷ []

abbrev gone_a : Bytes
gone_a = 0 ∷ 0 ∷ 0 ∷ 1 ∷ 97 ∷ 0 ∷ 0 ∷ 0 ∷ 0 ∷ 0 ∷ 0 ∷ 0 ∷ 1 ∷ 1 ∷ []

-- a later tombstone of the same key shares it
abbrev later_gone_a : Bytes
later_gone_a = 0 ∷ 1 ∷ 0 ∷ 0 ∷ 0 ∷ 0 ∷ 0 ∷ 0 ∷ 0 ∷ 0 ∷ 0 ∷ 2 ∷ 1 ∷ []

-- a value with both times: 259, and -1
abbrev times_a : Bytes
times_a =
    0 ∷ 0 ∷ 0 ∷ 1 ∷ 97 ∷ 0 ∷ 0 ∷ 0 ∷ 0 ∷ 0 ∷ 0 ∷ 1 ∷ 2 ∷ 6
    ∷ 0 ∷ 0 ∷ 0 ∷ 0 ∷ 0 ∷ 0 ∷ 1 ∷ 3 ∷ 255 ∷ 255 ∷ 255 ∷ 255 ∷ 255 ∷ 255 ∷ 255 ∷ 255 ∷ 0 ∷ 0 ∷ 0 ∷ 1 ∷ 120 ∷ []

-- the row of "a" with number 1 up to its flags, and a small number of eight bytes, before other bytes
abbrev of_a : Bytes → Bytes
of_a more = 0 ∷ 0 ∷ 0 ∷ 1 ∷ 97 ∷ 0 ∷ 0 ∷ 0 ∷ 0 ∷ 0 ∷ 0 ∷ 0 ∷ 1 ∷ more

abbrev eight : ℕ → Bytes → Bytes
eight n more = 0 ∷ 0 ∷ 0 ∷ 0 ∷ 0 ∷ 0 ∷ 0 ∷ n ∷ more

abbrev pub cases : List Case
cases =
    -- the row of "a": 18 bytes with an empty value, 14 as a tombstone; a later tombstone of the same key has 13, the fewest
    lays [] key_a (fields_is value [] 1 Absent Absent) bytes_a
    ∷ lays [] key_a (fields_is tombstone [] 1 Absent Absent) gone_a
    ∷ lays key_a key_a (fields_is tombstone [] 2 Absent Absent) later_gone_a
    -- a longer key after it, with a value; and a key that shares nothing with the first
    ∷ lays key_a (97 ∷ 98 ∷ []) (fields_is value (120 ∷ []) 2 Absent Absent) (0 ∷ 1 ∷ 0 ∷ 1 ∷ 98 ∷ 0 ∷ 0 ∷ 0 ∷ 0 ∷ 0 ∷ 0 ∷ 0 ∷ 2 ∷ 0 ∷ 0 ∷ 0 ∷ 0 ∷ 1 ∷ 120 ∷ [])
    ∷ lays key_a (98 ∷ []) (fields_is value [] 3 Absent Absent) (0 ∷ 0 ∷ 0 ∷ 1 ∷ 98 ∷ 0 ∷ 0 ∷ 0 ∷ 0 ∷ 0 ∷ 0 ∷ 0 ∷ 3 ∷ 0 ∷ 0 ∷ 0 ∷ 0 ∷ 0 ∷ [])
    -- the expire time stands before the create time, both before the value; times are signed, and numbers have their high byte first
    ∷ lays [] key_a (fields_is value (120 ∷ []) 258 (At (pos 259)) (At (negsuc 0))) times_a
    ∷ lays [] key_a (fields_is merge (120 ∷ []) 1 Absent (At (pos 5))) (of_a (12 ∷ eight 5 (0 ∷ 0 ∷ 0 ∷ 1 ∷ 120 ∷ [])))
    -- a tombstone with both times, which are read back; the bytes that are offered as its value are not written
    ∷ lays [] key_a (fields_is tombstone (120 ∷ 121 ∷ []) 1 (At (pos 7)) (At (pos 5))) (of_a (7 ∷ eight 7 (eight 5 [])))
    -- sizes: a value at its limit, and over it (3); of a tombstone nothing is counted; keys at their limit and over it (2), before a value over its own; no key (1)
    ∷ sizes 0 1 value 65535 (ok 65553)
    ∷ sizes 0 1 value 65536 (refuse 3)
    ∷ sizes 0 1 merge 65536 (refuse 3)
    ∷ sizes 0 1 tombstone 65536 (ok 14)
    ∷ sizes 0 4096 value 0 (ok 4113)
    ∷ sizes 4096 0 value 0 (ok 17)
    ∷ sizes 1 4096 value 65536 (refuse 2)
    ∷ sizes 0 0 value 65536 (refuse 1)
    -- encoding: a first row that shares, and a share longer than the first key (13), before no key (1), a key over its limit (2), too little room (6)
    ∷ encodes 0 1 [] 18 13
    ∷ encodes 1 2 [] 0 13
    ∷ encodes 1 0 [] 0 1
    ∷ encodes 4096 1 (replicate 4096 107) 0 2
    ∷ encodes 4096 1 (replicate 4095 107) 12 6
    ∷ encodes 0 0 key_a 17 6
    ∷ encodes 0 0 key_a 18 0
    -- decoding, after a first key of so many bytes: a length that is cut off (9)
    ∷ decodes [] 0 9
    ∷ decodes (0 ∷ 0 ∷ 0 ∷ []) 0 9
    -- 13 before 1 and 2, and these before the suffix that is missing (9)
    ∷ decodes (0 ∷ 1 ∷ 0 ∷ 0 ∷ []) 0 13
    ∷ decodes (0 ∷ 2 ∷ 16 ∷ 1 ∷ []) 1 13
    ∷ decodes (0 ∷ 0 ∷ 0 ∷ 0 ∷ []) 1 1
    ∷ decodes (0 ∷ 1 ∷ 16 ∷ 0 ∷ []) 1 2
    ∷ decodes (0 ∷ 0 ∷ 16 ∷ 1 ∷ []) 0 2
    ∷ decodes (0 ∷ 0 ∷ 16 ∷ 0 ∷ []) 0 9
    -- sequence number and flags missing (9); flags that there are not (11), a tombstone that is a merge operand (12), both before times that are missing (9)
    ∷ decodes (take 13 bytes_a) 0 9
    ∷ decodes (of_a (16 ∷ [])) 0 11
    ∷ decodes (of_a (11 ∷ [])) 0 12
    ∷ decodes (of_a (2 ∷ 0 ∷ [])) 0 9
    -- the value length missing (9), over its limit (3) whatever follows; the value missing (9)
    ∷ decodes (take 17 bytes_a) 0 9
    ∷ decodes (of_a (0 ∷ 0 ∷ 1 ∷ 0 ∷ 0 ∷ [])) 0 3
    ∷ decodes (of_a (0 ∷ 0 ∷ 0 ∷ 255 ∷ 255 ∷ [])) 0 9
    -- a row alone may end before the bytes do
    ∷ decodes (bytes_a ++ (0 ∷ [])) 0 0
    -- in a block a row ends where the next one starts: past it (16), before it (20); its key alone is told by the suffix, and has no 20
    ∷ stands_in bytes_a 18 0 0 0
    ∷ stands_in bytes_a 17 0 16 0
    ∷ stands_in bytes_a 4 0 16 16
    ∷ stands_in (bytes_a ++ (0 ∷ [])) 19 0 20 0
    ∷ stands_in (gone_a ++ bytes_a) 14 0 0 0
    ∷ stands_in (gone_a ++ bytes_a) 15 0 20 0
    -- row 0 that shares (13), in both reads
    ∷ stands_in later_gone_a 13 0 13 13
    ∷ stands_in later_gone_a 13 1 0 0
    ∷ []

pub cases-hold : AllHold cases
unfolding big unbig bits unbits fixed_at common time_bytes key_length_tests length_tests head_tests flags_at time_at times_at row_bytes row_size size_alone encode_row head_at body_at value_at held_at row_at read_row read_key laid_row
cases-hold = (
  (refl, refl, refl, refl),
  (
    (refl, refl, refl, refl),
    (
      (refl, refl, refl, refl),
      (
        (refl, refl, refl, refl),
        (
          (refl, refl, refl, refl),
          (
            (refl, refl, refl, refl),
            (
              (
                refl,
                refl,
                refl,
                refl,
              ),
              (
                (refl, refl, refl, refl),
                (
                  refl,
                  (
                    refl,
                    (
                      refl,
                      (
                        refl,
                        (
                          refl,
                          (
                            refl,
                            (
                              refl,
                              (
                                refl,
                                (
                                  refl,
                                  (
                                    refl,
                                    (
                                      refl,
                                      (
                                        refl,
                                        (
                                          refl,
                                          (
                                            refl,
                                            (
                                              refl,
                                              (
                                                refl,
                                                (
                                                  refl,
                                                  (
                                                    refl,
                                                    (
                                                      refl,
                                                      (
                                                        refl,
                                                        (
                                                          refl,
                                                          (
                                                            refl,
                                                            (
                                                              refl,
                                                              (
                                                                refl,
                                                                (
                                                                  refl,
                                                                  (
                                                                    refl,
                                                                    (
                                                                      refl,
                                                                      (
                                                                        refl,
                                                                        (
                                                                          refl,
                                                                          (
                                                                            refl,
                                                                            (
                                                                              refl,
                                                                              (
                                                                                (refl, refl),
                                                                                (
                                                                                  (refl, refl),
                                                                                  (
                                                                                    (refl, refl),
                                                                                    (
                                                                                      (refl, refl),
                                                                                      (
                                                                                        (
                                                                                          refl,
                                                                                          refl,
                                                                                        ),
                                                                                        ((refl, refl), ((refl, refl), ((refl, refl), tt))),
                                                                                      ),
                                                                                    ),
                                                                                  ),
                                                                                ),
                                                                              ),
                                                                            ),
                                                                          ),
                                                                        ),
                                                                      ),
                                                                    ),
                                                                  ),
                                                                ),
                                                              ),
                                                            ),
                                                          ),
                                                        ),
                                                      ),
                                                    ),
                                                  ),
                                                ),
                                              ),
                                            ),
                                          ),
                                        ),
                                      ),
                                    ),
                                  ),
                                ),
                              ),
                            ),
                          ),
                        ),
                      ),
                    ),
                  ),
                ),
              ),
            ),
          ),
        ),
      ),
    ),
  ),
)
