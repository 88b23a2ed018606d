-- A text that is read as a date was written as one.
use Rattle.std.proofs.Common.{◌≡◌, ◌⊎◌, inl, inr, refl, sym, ap, subst, ◌∙◌, ℕ, ◌+◌, ◌-◌, ◌*◌, ◌/◌, ◌%◌, ◌==◌, ◌&&◌, ◌<◌, ◌≤◌, Bool, true, false, List, [], ◌∷◌, ◌++◌, Option, Some, None, rules, arith, if◌then◌else◌}
use Rattle.std.proofs.lemmas.Bool.Decides.{nat_tests}
use Rattle.std.specs.Char.{is_ascii_digit}
use Rattle.liquid_filters.specs.Clock.{Clock}
use Rattle.liquid_filters.specs.DateLaws.{IsWritten, ReadIsWritten}
use Rattle.liquid_filters.specs.DateSpelling.{◌>>=◌, Read, byte, clock, digit, end, exists, if_exists, known_month, month, month_number, named_day, offset, one_or_two, or_else, past_date_byte, plain_day, read, second_digit, sign, read_spelled_date, time, two, four, Day, Offset, Spelled, Time}
use Rattle.liquid_filters.specs.WrittenDates.{two_digits, four_digits, letters, named_written, plain_written, short_written, time_written, sign_of, offset_written}

-- what is read as a digit was written so
abbrev number_in : Read ℕ → ℕ
number_in None = 0
number_in (Some p) = p.0

abbrev rest_in : Read ℕ → List ℕ
rest_in None = []
rest_in (Some p) = p.1

abbrev digit_if : Bool → ℕ → List ℕ → Read ℕ
digit_if t b s = if t then Some (b - 48, s) else None

digit_by : (t : Bool) (b a : ℕ) (s r : List ℕ) → is_ascii_digit b ≡ t → digit_if t b s ≡ Some (a, r) → (b ∷ s ≡ (48 + a) ∷ r) × (a < 10)
digit_by false b a s r d e = search (rules, e)
digit_by true b a s r d e =
    let low : 48 ≤ b = grind (arith, nat_tests) in
    let high : b ≤ 57 = grind (arith, nat_tests) in
    let number : b - 48 ≡ a = ap number_in e in
    let rest : s ≡ r = ap rest_in e in
    let whole : b ≡ 48 + a = omega arith in
    (rw (whole, rest) refl, omega arith)

pub digit_was : (s r : List ℕ) (a : ℕ) → digit s ≡ Some (a, r) → (s ≡ (48 + a) ∷ r) × (a < 10)
digit_was [] r a e = search (rules, e)
digit_was (b ∷ s) r a e = digit_by (is_ascii_digit b) b a s r refl e

-- each step of a reading that succeeds succeeded
pub bind_was : {A B : Type 0} (m : Option A) (f : A → Option B) (b : B) → ◌>>=◌ m f ≡ Some b → (a : A) × (m ≡ Some a) × (f a ≡ Some b)
bind_was None f b e = search (rules, e)
bind_was (Some a) f b e = (a, refl, e)

pub two_was : (s r : List ℕ) (n : ℕ) → two s ≡ Some (n, r) → (s ≡ two_digits n r) × (n < 100)
unfolding two
two_was s r n e =
    let p = bind_was (digit s) (λ a. ◌>>=◌ (digit a.1) (λ b. Some (a.0 * 10 + b.0, b.1))) (n, r) e in
    let q = bind_was (digit p.0.1) (λ b. Some (p.0.0 * 10 + b.0, b.1)) (n, r) p.2 in
    let first = digit_was s p.0.1 p.0.0 p.1 in
    let second = digit_was p.0.1 q.0.1 q.0.0 q.1 in
    let number : p.0.0 * 10 + q.0.0 ≡ n = ap number_in q.2 in
    let rest : q.0.1 ≡ r = ap rest_in q.2 in
    let tens : n / 10 ≡ p.0.0 = omega (arith, first.1, second.1, number) in
    let ones : n % 10 ≡ q.0.0 = omega (arith, first.1, second.1, number) in
    (first.0 ∙ ap (λ t. (48 + p.0.0) ∷ t) second.0 ∙ (rw (tens, ones, rest) refl), omega (arith, first.1, second.1, number))

pub four_was : (s r : List ℕ) (n : ℕ) → four s ≡ Some (n, r) → s ≡ four_digits n r
unfolding four
four_was s r n e =
    let p = bind_was (two s) (λ a. ◌>>=◌ (two a.1) (λ b. Some (a.0 * 100 + b.0, b.1))) (n, r) e in
    let q = bind_was (two p.0.1) (λ b. Some (p.0.0 * 100 + b.0, b.1)) (n, r) p.2 in
    let first = two_was s p.0.1 p.0.0 p.1 in
    let second = two_was p.0.1 q.0.1 q.0.0 q.1 in
    let number : p.0.0 * 100 + q.0.0 ≡ n = ap number_in q.2 in
    let rest : q.0.1 ≡ r = ap rest_in q.2 in
    let hundreds : n / 100 ≡ p.0.0 = omega (arith, first.1, second.1, number) in
    let ones : n % 100 ≡ q.0.0 = omega (arith, first.1, second.1, number) in
    first.0 ∙ ap (λ t. two_digits p.0.0 t) second.0 ∙ (rw (hundreds, ones, rest) refl)

past_by : (t : Bool) (b c : ℕ) (s r : List ℕ) → (c == b) ≡ t → (if t then Some s else None) ≡ Some r → c ∷ s ≡ b ∷ r
past_by true b c s r h e =
    let same : c ≡ b = grind (arith, nat_tests) in
    let rest : s ≡ r = cc in
    rw (same, rest) refl
past_by false b c s r h e = search (rules, e)

past_was : (b : ℕ) (s r : List ℕ) → past_date_byte b s ≡ Some r → s ≡ b ∷ r
past_was b [] r e = search (rules, e)
past_was b (c ∷ s) r e = past_by (c == b) b c s r refl e

-- ---- days
-- one digit or two
abbrev IsDayNumber : ℕ → List ℕ → List ℕ → Type 0
IsDayNumber n s rest = ((n < 10) × (s ≡ (48 + n) ∷ rest)) ⊎ (s ≡ two_digits n rest)

second_was : (a n : ℕ) (rest r : List ℕ) (o : Read ℕ) → a < 10 → digit rest ≡ o → second_digit a rest o ≡ Some (n, r) → IsDayNumber n ((48 + a) ∷ rest) r
second_was a n rest r None l h e =
    let number : a ≡ n = ap number_in e in
    let left : rest ≡ r = ap rest_in e in
    inl (omega (arith, number, l), rw (number, left) refl)
second_was a n rest r (Some b) l h e =
    let number : a * 10 + b.0 ≡ n = ap number_in e in
    let left : b.1 ≡ r = ap rest_in e in
    let digits = digit_was rest b.1 b.0 h in
    let tens : n / 10 ≡ a = omega (arith, number, l, digits.1) in
    let ones : n % 10 ≡ b.0 = omega (arith, number, l, digits.1) in
    inr (ap (λ t. (48 + a) ∷ t) digits.0 ∙ (rw (tens, ones, left) refl))

day_was : (s r : List ℕ) (n : ℕ) → one_or_two s ≡ Some (n, r) → IsDayNumber n s r
unfolding one_or_two
day_was s r n e =
    let p = bind_was (digit s) (λ a. second_digit a.0 a.1 (digit a.1)) (n, r) e in
    let first = digit_was s p.0.1 p.0.0 p.1 in
    subst (λ t. IsDayNumber n t r) (sym first.0) (second_was p.0.0 n p.0.1 r (digit p.0.1) first.1 refl p.2)

byte_was : (s r : List ℕ) (a : ℕ) → byte s ≡ Some (a, r) → s ≡ a ∷ r
byte_was [] r a e = search (rules, e)
byte_was (c ∷ s) r a e =
    let same : c ≡ a = ap number_in e in
    let rest : s ≡ r = ap rest_in e in
    rw (same, rest) refl

-- ---- the letters of a month
abbrev Names : ℕ → ℕ → ℕ → ℕ → Type 0
Names a b c m = (m ≡ 0) ⊎ (a ∷ b ∷ c ∷ [] ≡ letters m)

either : (t : Bool) (n k m : ℕ) (P : ℕ → Type 0) → (t ≡ true → P n) → (k ≡ m → P m) → (if t then n else k) ≡ m → P m
either true n k m P h g e = subst P e (h refl)
either false n k m P h g e = g e

three : (a b c x y z : ℕ) → ((a == x) && (b == y) && (c == z)) ≡ true → a ∷ b ∷ c ∷ [] ≡ x ∷ y ∷ z ∷ []
three a b c x y z h =
    let p : a ≡ x = grind (arith, nat_tests) in
    let q : b ≡ y = grind (arith, nat_tests) in
    let r : c ≡ z = grind (arith, nat_tests) in
    rw (p, q, r) refl

names : (a b c m : ℕ) → month_number a b c ≡ m → Names a b c m
names a b c m =
    either ((a == 74) && (b == 97) && (c == 110)) 1 _ m (Names a b c) (λ h. inr (three a b c 74 97 110 h))
    (either ((a == 70) && (b == 101) && (c == 98)) 2 _ m (Names a b c) (λ h. inr (three a b c 70 101 98 h))
    (either ((a == 77) && (b == 97) && (c == 114)) 3 _ m (Names a b c) (λ h. inr (three a b c 77 97 114 h))
    (either ((a == 65) && (b == 112) && (c == 114)) 4 _ m (Names a b c) (λ h. inr (three a b c 65 112 114 h))
    (either ((a == 77) && (b == 97) && (c == 121)) 5 _ m (Names a b c) (λ h. inr (three a b c 77 97 121 h))
    (either ((a == 74) && (b == 117) && (c == 110)) 6 _ m (Names a b c) (λ h. inr (three a b c 74 117 110 h))
    (either ((a == 74) && (b == 117) && (c == 108)) 7 _ m (Names a b c) (λ h. inr (three a b c 74 117 108 h))
    (either ((a == 65) && (b == 117) && (c == 103)) 8 _ m (Names a b c) (λ h. inr (three a b c 65 117 103 h))
    (either ((a == 83) && (b == 101) && (c == 112)) 9 _ m (Names a b c) (λ h. inr (three a b c 83 101 112 h))
    (either ((a == 79) && (b == 99) && (c == 116)) 10 _ m (Names a b c) (λ h. inr (three a b c 79 99 116 h))
    (either ((a == 78) && (b == 111) && (c == 118)) 11 _ m (Names a b c) (λ h. inr (three a b c 78 111 118 h))
    (either ((a == 68) && (b == 101) && (c == 99)) 12 0 m (Names a b c) (λ h. inr (three a b c 68 101 99 h)) (λ e. inl (sym e)))))))))))))

abbrev known_if : Bool → ℕ → List ℕ → Read ℕ
known_if t n s = if t then None else Some (n, s)

known_by : (t : Bool) (n m : ℕ) (s r : List ℕ) → (n == 0) ≡ t → known_if t n s ≡ Some (m, r) → (n ≡ m) × (s ≡ r) × (m ≡ 0 → ⊥)
known_by true n m s r h e = search (rules, e)
known_by false n m s r h e =
    let number : n ≡ m = ap number_in e in
    let rest : s ≡ r = ap rest_in e in
    (number, rest, λ z. grind (arith, nat_tests, number, h, z))

lettered : (a b c m : ℕ) → month_number a b c ≡ m → (m ≡ 0 → ⊥) → a ∷ b ∷ c ∷ [] ≡ letters m
lettered a b c m e n = pick (names a b c m e)
  where
    pick : Names a b c m → a ∷ b ∷ c ∷ [] ≡ letters m
    pick (inl z) = absurd (n z)
    pick (inr h) = h

month_was : (s r : List ℕ) (m : ℕ) → month s ≡ Some (m, r) → s ≡ letters m ++ r
unfolding month
month_was s r m e =
    let p = bind_was (byte s) (λ a. ◌>>=◌ (byte a.1) (λ b. ◌>>=◌ (byte b.1) (λ c. known_month (month_number a.0 b.0 c.0) c.1))) (m, r) e in
    let q = bind_was (byte p.0.1) (λ b. ◌>>=◌ (byte b.1) (λ c. known_month (month_number p.0.0 b.0 c.0) c.1)) (m, r) p.2 in
    let t = bind_was (byte q.0.1) (λ c. known_month (month_number p.0.0 q.0.0 c.0) c.1) (m, r) q.2 in
    let n = month_number p.0.0 q.0.0 t.0.0 in
    let k = known_by (n == 0) n m t.0.1 r refl t.2 in
    byte_was s p.0.1 p.0.0 p.1 ∙ ap (λ u. p.0.0 ∷ u) (byte_was p.0.1 q.0.1 q.0.0 q.1 ∙ ap (λ u. q.0.0 ∷ u) (byte_was q.0.1 t.0.1 t.0.0 t.1))
    ∙ ap (λ l. l ++ t.0.1) (lettered p.0.0 q.0.0 t.0.0 m k.0 k.2) ∙ ap (λ u. letters m ++ u) k.1

-- ---- days, times and offsets
abbrev left : {A : Type 0} → Option (A × List ℕ) → List ℕ
left None = []
left (Some x) = x.1

abbrev day_in : Read Day → Day
day_in None = record { year = 0; month = 0; day = 0 }
day_in (Some x) = x.0

abbrev time_in : Read Time → Time
time_in None = record { hour = 0; minute = 0; second = 0 }
time_in (Some x) = x.0

abbrev offset_in : Read Offset → Offset
offset_in None = record { is_west = false; hours = 0; minutes = 0 }
offset_in (Some x) = x.0

abbrev plain₅ : ℕ → ℕ → ℕ × List ℕ → Read Day
plain₅ y m d = Some (record { year = y; month = m; day = d.0 }, d.1)

abbrev plain₄ : ℕ → ℕ → List ℕ → Read Day
plain₄ y m s = ◌>>=◌ (two s) (plain₅ y m)

abbrev plain₃ : ℕ → ℕ × List ℕ → Read Day
plain₃ y m = ◌>>=◌ (past_date_byte 45 m.1) (plain₄ y m.0)

abbrev plain₂ : ℕ → List ℕ → Read Day
plain₂ y s = ◌>>=◌ (two s) (plain₃ y)

abbrev plain₁ : ℕ × List ℕ → Read Day
plain₁ y = ◌>>=◌ (past_date_byte 45 y.1) (plain₂ y.0)

plain_was : (s r : List ℕ) (d : Day) → plain_day s ≡ Some (d, r) → s ≡ plain_written d r
unfolding plain_day
plain_was s r d e =
    let a = bind_was (four s) plain₁ (d, r) e in
    let b = bind_was (past_date_byte 45 a.0.1) (plain₂ a.0.0) (d, r) a.2 in
    let c = bind_was (two b.0) (plain₃ a.0.0) (d, r) b.2 in
    let f = bind_was (past_date_byte 45 c.0.1) (plain₄ a.0.0 c.0.0) (d, r) c.2 in
    let g = bind_was (two f.0) (plain₅ a.0.0 c.0.0) (d, r) f.2 in
    let same = ap day_in g.2 in
    let rest : g.0.1 ≡ r = ap left g.2 in
    four_was s a.0.1 a.0.0 a.1
    ∙ ap (four_digits a.0.0) (past_was 45 a.0.1 b.0 b.1 ∙ ap (λ u. 45 ∷ u) ((two_was b.0 c.0.1 c.0.0 c.1).0
    ∙ ap (two_digits c.0.0) (past_was 45 c.0.1 f.0 f.1 ∙ ap (λ u. 45 ∷ u) (two_was f.0 g.0.1 g.0.0 g.1).0)))
    ∙ ap (λ v. plain_written v g.0.1) same ∙ ap (plain_written d) rest

abbrev named₅ : ℕ → ℕ → ℕ × List ℕ → Read Day
named₅ d m y = Some (record { year = y.0; month = m; day = d }, y.1)

abbrev named₄ : ℕ → ℕ → List ℕ → Read Day
named₄ d m s = ◌>>=◌ (four s) (named₅ d m)

abbrev named₃ : ℕ → ℕ × List ℕ → Read Day
named₃ d m = ◌>>=◌ (past_date_byte 32 m.1) (named₄ d m.0)

abbrev named₂ : ℕ → List ℕ → Read Day
named₂ d s = ◌>>=◌ (month s) (named₃ d)

abbrev named₁ : ℕ × List ℕ → Read Day
named₁ d = ◌>>=◌ (past_date_byte 32 d.1) (named₂ d.0)

abbrev IsNamed : Day → List ℕ → List ℕ → Type 0
IsNamed d s r = (s ≡ named_written d r) ⊎ ((d.day < 10) × (s ≡ short_written d r))

by_number : (d : Day) (s after r : List ℕ) → after ≡ 32 ∷ (letters d.month ++ (32 ∷ four_digits d.year r)) → IsDayNumber d.day s after → IsNamed d s r
by_number d s after r e (inl h) = inr (h.0, h.1 ∙ ap (λ u. (48 + d.day) ∷ u) e)
by_number d s after r e (inr h) = inl (h ∙ ap (two_digits d.day) e)

named_was : (s r : List ℕ) (d : Day) → named_day s ≡ Some (d, r) → IsNamed d s r
unfolding named_day
named_was s r d e =
    let a = bind_was (one_or_two s) named₁ (d, r) e in
    let b = bind_was (past_date_byte 32 a.0.1) (named₂ a.0.0) (d, r) a.2 in
    let c = bind_was (month b.0) (named₃ a.0.0) (d, r) b.2 in
    let f = bind_was (past_date_byte 32 c.0.1) (named₄ a.0.0 c.0.0) (d, r) c.2 in
    let g = bind_was (four f.0) (named₅ a.0.0 c.0.0) (d, r) f.2 in
    let own : Day = record { year = g.0.0; month = c.0.0; day = a.0.0 } in
    let same : own ≡ d = ap day_in g.2 in
    let rest : g.0.1 ≡ r = ap left g.2 in
    let after = past_was 32 a.0.1 b.0 b.1 ∙ ap (λ u. 32 ∷ u) (month_was b.0 c.0.1 c.0.0 c.1
    ∙ ap (λ u. letters c.0.0 ++ u) (past_was 32 c.0.1 f.0 f.1 ∙ ap (λ u. 32 ∷ u) (four_was f.0 g.0.1 g.0.0 g.1))) in
    subst (λ v. IsNamed v s r) same (subst (IsNamed own s) rest (by_number own s a.0.1 g.0.1 after (day_was s a.0.1 a.0.0 a.1)))

abbrev time₅ : ℕ → ℕ → ℕ × List ℕ → Read Time
time₅ h m x = Some (record { hour = h; minute = m; second = x.0 }, x.1)

abbrev time₄ : ℕ → ℕ → List ℕ → Read Time
time₄ h m s = ◌>>=◌ (two s) (time₅ h m)

abbrev time₃ : ℕ → ℕ × List ℕ → Read Time
time₃ h m = ◌>>=◌ (past_date_byte 58 m.1) (time₄ h m.0)

abbrev time₂ : ℕ → List ℕ → Read Time
time₂ h s = ◌>>=◌ (two s) (time₃ h)

abbrev time₁ : ℕ × List ℕ → Read Time
time₁ h = ◌>>=◌ (past_date_byte 58 h.1) (time₂ h.0)

time_was : (s r : List ℕ) (t : Time) → time s ≡ Some (t, r) → s ≡ time_written t r
unfolding time
time_was s r t e =
    let a = bind_was (two s) time₁ (t, r) e in
    let b = bind_was (past_date_byte 58 a.0.1) (time₂ a.0.0) (t, r) a.2 in
    let c = bind_was (two b.0) (time₃ a.0.0) (t, r) b.2 in
    let f = bind_was (past_date_byte 58 c.0.1) (time₄ a.0.0 c.0.0) (t, r) c.2 in
    let g = bind_was (two f.0) (time₅ a.0.0 c.0.0) (t, r) f.2 in
    let same = ap time_in g.2 in
    let rest : g.0.1 ≡ r = ap left g.2 in
    (two_was s a.0.1 a.0.0 a.1).0
    ∙ ap (two_digits a.0.0) (past_was 58 a.0.1 b.0 b.1 ∙ ap (λ u. 58 ∷ u) ((two_was b.0 c.0.1 c.0.0 c.1).0
    ∙ ap (two_digits c.0.0) (past_was 58 c.0.1 f.0 f.1 ∙ ap (λ u. 58 ∷ u) (two_was f.0 g.0.1 g.0.0 g.1).0)))
    ∙ ap (λ v. time_written v g.0.1) same ∙ ap (time_written t) rest

abbrev sign_in : Read Bool → Bool
sign_in None = false
sign_in (Some x) = x.0

abbrev sign_if : Bool → Bool → List ℕ → Read Bool
sign_if t u s = if t then Some (false, s) else (if u then Some (true, s) else None)

sign_by : (t u : Bool) (c : ℕ) (s r : List ℕ) (b : Bool) → (c == 43) ≡ t → (c == 45) ≡ u → sign_if t u s ≡ Some (b, r) → c ∷ s ≡ sign_of b ∷ r
sign_by true u c s r b h k e =
    let byte : c ≡ 43 = grind (arith, nat_tests) in
    let same : false ≡ b = ap sign_in e in
    let rest : s ≡ r = ap left e in
    rw (byte, rest, ← same) refl
sign_by false true c s r b h k e =
    let byte : c ≡ 45 = grind (arith, nat_tests) in
    let same : true ≡ b = ap sign_in e in
    let rest : s ≡ r = ap left e in
    rw (byte, rest, ← same) refl
sign_by false false c s r b h k e = search (rules, e)

sign_was : (s r : List ℕ) (b : Bool) → sign s ≡ Some (b, r) → s ≡ sign_of b ∷ r
sign_was [] r b e = search (rules, e)
sign_was (c ∷ s) r b e = sign_by (c == 43) (c == 45) c s r b refl refl e

abbrev offset₃ : Bool → ℕ → ℕ × List ℕ → Read Offset
offset₃ n h m = Some (record { is_west = n; hours = h; minutes = m.0 }, m.1)

abbrev offset₂ : Bool → ℕ × List ℕ → Read Offset
offset₂ n h = ◌>>=◌ (two h.1) (offset₃ n h.0)

abbrev offset₁ : Bool × List ℕ → Read Offset
offset₁ n = ◌>>=◌ (two n.1) (offset₂ n.0)

offset_was : (s r : List ℕ) (o : Offset) → offset s ≡ Some (o, r) → s ≡ offset_written o r
unfolding offset
offset_was s r o e =
    let a = bind_was (sign s) offset₁ (o, r) e in
    let b = bind_was (two a.0.1) (offset₂ a.0.0) (o, r) a.2 in
    let c = bind_was (two b.0.1) (offset₃ a.0.0 b.0.0) (o, r) b.2 in
    let same = ap offset_in c.2 in
    let rest : c.0.1 ≡ r = ap left c.2 in
    sign_was s a.0.1 a.0.0 a.1
    ∙ ap (λ u. sign_of a.0.0 ∷ u) ((two_was a.0.1 b.0.1 b.0.0 b.1).0 ∙ ap (two_digits b.0.0) (two_was b.0.1 c.0.1 c.0.0 c.1).0)
    ∙ ap (λ v. offset_written v c.0.1) same ∙ ap (offset_written o) rest

-- ---- the whole text
either_was : (a b : Read Day) (x : Day × List ℕ) → or_else a b ≡ Some x → (a ≡ Some x) ⊎ (b ≡ Some x)
either_was (Some y) b x e = inl e
either_was None b x e = inr e

end_was : (s : List ℕ) (y x : Spelled) → end s y ≡ Some x → (s ≡ []) × (y ≡ x)
end_was [] y x e = (refl, cc)
end_was (b ∷ s) y x e = search (rules, e)

abbrev rest₅ : Day → Time → Offset × List ℕ → Option Spelled
rest₅ d t o = end o.1 (record { date = d; time = t; offset = o.0 })

abbrev rest₄ : Day → Time → List ℕ → Option Spelled
rest₄ d t s = ◌>>=◌ (offset s) (rest₅ d t)

abbrev rest₃ : Day → Time × List ℕ → Option Spelled
rest₃ d t = ◌>>=◌ (past_date_byte 32 t.1) (rest₄ d t.0)

abbrev rest₂ : Day → List ℕ → Option Spelled
rest₂ d s = ◌>>=◌ (time s) (rest₃ d)

abbrev rest₁ : Day × List ℕ → Option Spelled
rest₁ d = ◌>>=◌ (past_date_byte 32 d.1) (rest₂ d.0)

abbrev after : Spelled → List ℕ
after x = 32 ∷ time_written x.time (32 ∷ offset_written x.offset [])

by_day : (s r : List ℕ) (x : Spelled) → r ≡ after x → (named_day s ≡ Some (x.date, r)) ⊎ (plain_day s ≡ Some (x.date, r)) → IsWritten x s
by_day s r x e (inl h) = spell (named_was s r x.date h)
  where
    spell : IsNamed x.date s r → IsWritten x s
    spell (inl w) = inr (inl (w ∙ ap (named_written x.date) e))
    spell (inr w) = inr (inr (w.0, w.1 ∙ ap (short_written x.date) e))
by_day s r x e (inr h) = inl (plain_was s r x.date h ∙ ap (plain_written x.date) e)

spelled_was : (s : List ℕ) (x : Spelled) → read_spelled_date s ≡ Some x → IsWritten x s
unfolding read_spelled_date
spelled_was s x e =
    let a = bind_was (or_else (named_day s) (plain_day s)) rest₁ x e in
    let b = bind_was (past_date_byte 32 a.0.1) (rest₂ a.0.0) x a.2 in
    let c = bind_was (time b.0) (rest₃ a.0.0) x b.2 in
    let f = bind_was (past_date_byte 32 c.0.1) (rest₄ a.0.0 c.0.0) x c.2 in
    let g = bind_was (offset f.0) (rest₅ a.0.0 c.0.0) x f.2 in
    let own : Spelled = record { date = a.0.0; time = c.0.0; offset = g.0.0 } in
    let over = end_was g.0.1 own x g.2 in
    let left_is : a.0.1 ≡ after own =
    past_was 32 a.0.1 b.0 b.1 ∙ ap (λ u. 32 ∷ u) (time_was b.0 c.0.1 c.0.0 c.1
    ∙ ap (time_written c.0.0) (past_was 32 c.0.1 f.0 f.1 ∙ ap (λ u. 32 ∷ u) (offset_was f.0 g.0.1 g.0.0 g.1 ∙ ap (offset_written g.0.0) over.0))) in
    subst (λ y. IsWritten y s) over.1 (by_day s a.0.1 own left_is (either_was (named_day s) (plain_day s) a.0 a.1))

there : (t : Bool) (x : Spelled) (c : Clock) → exists x ≡ t → (if t then Some (clock x) else None) ≡ Some c → (exists x ≡ true) × (c ≡ clock x)
there true x c h e = (h, cc)
there false x c h e = search (rules, e)

pub read_is_written : ReadIsWritten
unfolding read
read_is_written s c e =
    let p = bind_was (read_spelled_date s) if_exists c e in
    let h = there (exists p.0) p.0 c refl p.2 in
    (p.0, h.0, h.1, spelled_was s p.0 p.1)
