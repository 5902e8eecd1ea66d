-- The records that were read in turn are those that `records` gives.
use Rattle.std.proofs.Common.{◌≡◌, ◌≤◌, ◌<◌, ◌-◌, ◌+◌, ◌∙◌, ℕ, zero, suc, Bool, true, false, List, [], ◌∷◌, ◌++◌, Option, Some, None, length, refl, sym, ap, arith, if◌then◌else◌, ◌==◌, ◌&&◌, add-one, inl, Bor, IsSome}
use Rattle.csv.specs.Machine.{Read, after_end, ends_at_end, ends_with, field_after, fields_after, in_field, is_byte, is_end, next_record, start_field, start_record, step, carriage_return, line_feed}
use Rattle.csv.specs.Reading.{NextIs, ReadRecord, ReadsNext, default_config, is_bom, pending_of, records_from, records_next, strip_bom}
use Rattle.mari_rows.specs.Records.{IsBetweenRecords, ReadsRecord, bytes_left, records_after, records_in}
use Rattle.csv.specs.declared.reader.Reader.{Reader}
use Rattle.csv.specs.declared.parser.Action.{Action}
use Rattle.csv.specs.declared.parser.Config.{Config}
use Rattle.csv.specs.declared.parser.State.{State}
use Rattle.csv.specs.declared.parser.State.TheVariants as st
use Rattle.csv.specs.declared.parser.Terminator.{Terminator}
use Rattle.csv.specs.declared.parser.Terminator.TheVariants as term

-- what ends a record leaves a state in which none has begun
abbrev Closes : State × Action → Type 0
Closes p = is_end p.1 ≡ true → ends_at_end p.0 ≡ false

choose : (b : Bool) (x y : State × Action) → Closes x → Closes y → Closes (if b then x else y)
choose true x y h k = h
choose false x y h k = k

after : (b : Bool) → ends_at_end (if b then st.AfterCr else st.StartRecord) ≡ false
after true = refl
after false = refl

after-end : (t : Terminator) (c : ℕ) → ends_at_end (after_end t c) ≡ false
after-end term.CRLF c = after (c == carriage_return)
after-end (term.Any t) c = refl

field-closes : (cfg : Config) (c : ℕ) → Closes (in_field cfg c)
field-closes cfg c =
    choose (c == cfg.delimiter) _ _ (λ e. cc e) (choose (ends_with cfg.terminator c) _ _ (λ e. after-end cfg.terminator c) (λ e. cc e))

start-closes : (cfg : Config) (c : ℕ) → Closes (start_field cfg c)
start-closes cfg c = choose (cfg.quoting && (c == cfg.quote)) _ _ (λ e. cc e) (field-closes cfg c)

record-closes : (cfg : Config) (c : ℕ) → Closes (start_record cfg c)
record-closes cfg c =
    choose (ends_with cfg.terminator c) _ _ (λ e. cc e) (choose (is_byte cfg.comment c) _ _ (λ e. cc e) (start-closes cfg c))

step-closes : (cfg : Config) (s : State) (c : ℕ) → Closes (step cfg s c)
step-closes cfg st.StartRecord c = record-closes cfg c
step-closes cfg st.StartField c = start-closes cfg c
step-closes cfg st.InField c = field-closes cfg c
step-closes cfg st.InQuoted c =
    choose (cfg.quoting && (c == cfg.quote)) _ _ (λ e. cc e) (choose (cfg.quoting && is_byte cfg.escape c) _ _ (λ e. cc e) (λ e. cc e))
step-closes cfg st.InEscape c = λ e. cc e
step-closes cfg st.AfterQuote c = choose (cfg.quoting && cfg.double_quote && (c == cfg.quote)) _ _ (λ e. cc e) (field-closes cfg c)
step-closes cfg st.InComment c = choose (c == line_feed) _ _ (λ e. cc e) (λ e. cc e)
step-closes cfg st.AfterCr c = choose (c == line_feed) _ _ (λ e. cc e) (record-closes cfg c)

-- a record leaves such a state, and fewer bytes where there were any
abbrev Leaves : List ℕ → Option Read → Type 0
Leaves xs None = Unit {0}
Leaves xs (Some p) = (ends_at_end p.1 ≡ false) × (length p.2 ≤ length xs - 1)

leaves : (cfg : Config) (s : State) (fields : List (List ℕ)) (field : List ℕ) (xs : List ℕ) → Leaves xs (next_record cfg s fields field xs)
unfolding next_record
leaves cfg s fields field [] = by (ends_at_end s)
  where
    by : (b : Bool) → Leaves [] (if b then Some (fields ++ (field ∷ []), st.StartRecord, []) else None)
    by true = (refl, omega arith)
    by false = tt
leaves cfg s fields field (c ∷ rest) = by (is_end (step cfg s c).1) refl
    (leaves cfg (step cfg s c).0 (fields_after (step cfg s c).1 fields field) (field_after (step cfg s c).1 c field) rest)
  where
    more : (o : Option Read) → Leaves rest o → Leaves (c ∷ rest) o
    more None h = tt
    more (Some p) h = (h.0, omega (arith, h.1))

    by : (b : Bool) → is_end (step cfg s c).1 ≡ b
        → Leaves rest (next_record cfg (step cfg s c).0 (fields_after (step cfg s c).1 fields field) (field_after (step cfg s c).1 c field) rest)
        → Leaves (c ∷ rest) (if b then Some (fields_after (step cfg s c).1 fields field, (step cfg s c).0, rest)
        else next_record cfg (step cfg s c).0 (fields_after (step cfg s c).1 fields field) (field_after (step cfg s c).1 c field) rest)
    by true e h = (step-closes cfg s c e, omega arith)
    by false e h = more _ h

-- no bytes are no record, where none has begun
nothing : (cfg : Config) (s : State) → ends_at_end s ≡ false → next_record cfg s [] [] [] ≡ None
unfolding next_record
nothing cfg s closed = rw closed refl

-- more fuel than bytes makes no difference
records_from-fuel : (cfg : Config) (n m : ℕ) (s : State) (xs : List ℕ) → ends_at_end s ≡ false → length xs < n → length xs < m → records_from cfg n s xs ≡ records_from cfg m s xs
unfolding records_from
records_from-fuel cfg zero m s xs closed low high = absurd (omega (arith, low))
records_from-fuel cfg (suc n) zero s xs closed low high = absurd (omega (arith, high))
records_from-fuel cfg (suc n) (suc m) s [] closed low high = rw (nothing cfg s closed) refl
records_from-fuel cfg (suc n) (suc m) s (c ∷ xs) closed low high = by (next_record cfg s [] [] (c ∷ xs)) (leaves cfg s [] [] (c ∷ xs)) (records_from-fuel cfg n m)
  where
    by : (o : Option Read) → Leaves (c ∷ xs) o
        → ((t : State) (ys : List ℕ) → ends_at_end t ≡ false → length ys < n → length ys < m → records_from cfg n t ys ≡ records_from cfg m t ys)
        → records_next (records_from cfg n) o ≡ records_next (records_from cfg m) o
    by None h more = refl
    by (Some p) h more = ap (λ rest. p.0 ∷ rest) (more p.1 p.2 h.0 (omega (arith, h.1, low)) (omega (arith, h.1, high)))

-- one record, and those after it
records_after-more : (s : State) (xs : List ℕ) (p : Read) → ends_at_end s ≡ false → next_record default_config s [] [] xs ≡ Some p
    → (records_after s (Some xs) ≡ p.0 ∷ records_after p.1 (Some p.2)) × (ends_at_end p.1 ≡ false)
unfolding records_from
records_after-more s [] p closed next = cc (sym next ∙ nothing default_config s closed)
records_after-more s (c ∷ xs) p closed next =
    let left : Leaves (c ∷ xs) (Some p) = rw next at (leaves default_config s [] [] (c ∷ xs)) in
    let fuel = records_from-fuel default_config (length (c ∷ xs)) (length p.2 + 1) p.1 p.2 left.0 (omega (arith, left.1)) (omega arith) in
    (rw (add-one, next) (ap (λ rest. p.0 ∷ rest) fuel), left.0)

records_after-none : (s : State) (xs : List ℕ) → next_record default_config s [] [] xs ≡ None → records_after s (Some xs) ≡ []
unfolding records_from
records_after-none s xs next = rw (add-one, next) refl

-- what a read says of the records, where the bytes before it are known
read-more : (s s2 : State) (xs : List ℕ) (after : Option (List ℕ)) (fields : List (List ℕ)) → ends_at_end s ≡ false
    → ReadsNext default_config s (Some xs) after true fields s2
    → (records_after s (Some xs) ≡ fields ∷ records_after s2 after) × IsSome after × (ends_at_end s2 ≡ false)
read-more s s2 xs None fields closed reads = absurd reads
read-more s s2 xs (Some ys) fields closed reads = by (next_record default_config s [] [] xs) refl reads
  where
    by : (o : Option Read) → next_record default_config s [] [] xs ≡ o → NextIs o true fields s2 ys
        → (records_after s (Some xs) ≡ fields ∷ records_after s2 (Some ys)) × IsSome (Some ys) × (ends_at_end s2 ≡ false)
    by None next is = cc is
    by (Some p) next is =
        let more = records_after-more s xs p closed next in
        (rw (is.1, is.2, is.3) more.0, refl, rw is.2 more.1)

read-none : (s s2 : State) (xs : List ℕ) (after : Option (List ℕ)) (fields : List (List ℕ))
    → ReadsNext default_config s (Some xs) after false fields s2 → records_after s (Some xs) ≡ []
read-none s s2 xs None fields reads = absurd reads
read-none s s2 xs (Some ys) fields reads = by (next_record default_config s [] [] xs) refl reads
  where
    by : (o : Option Read) → next_record default_config s [] [] xs ≡ o → NextIs o false fields s2 ys → records_after s (Some xs) ≡ []
    by None next is = records_after-none s xs next
    by (Some p) next is = cc is.0

-- a reader that has looked for a mark
module _ (reader : Reader (Bor (List ℕ))) (marked : reader.bom_checked ≡ true) where
  bytes_left-marked : bytes_left reader ≡ pending_of (Some reader.rdr.now) reader
  bytes_left-marked = rw marked refl

pub reads-record : (old new : Reader (Bor (List ℕ))) (fields : List (List ℕ)) (found : Bool) → IsBetweenRecords old
    → ReadRecord (λ page. Some page.now) old new found fields → new.first ≡ true → new.flexible ≡ old.flexible → ReadsRecord old new fields found
reads-record old new fields found is read first flexible = by found (bytes_left old) refl is.known read
  where
    marked : bytes_left new ≡ pending_of (Some new.rdr.now) new
    marked = bytes_left-marked new read.1

    by : (found : Bool) (bytes : Option (List ℕ)) → bytes_left old ≡ bytes → IsSome bytes → ReadRecord (λ page. Some page.now) old new found fields
        → ReadsRecord old new fields found
    by found None e known read = cc known
    by true (Some xs) e known read =
        let more = read-more old.state new.state xs (pending_of (Some new.rdr.now) new) fields is.between (rw (is.config, e) at read.0) in (
          rw (e, marked) more.0,
          record {
            config = read.2 ∙ is.config;
            trim = read.3 ∙ is.trim;
            flexible = flexible ∙ is.flexible;
            ready = inl first;
            known = rw marked more.1;
            between = more.2;
          },
        )
    by false (Some xs) e known read =
        rw e (read-none old.state new.state xs (pending_of (Some new.rdr.now) new) fields (rw (is.config, e) at read.0))

-- there are no more records than bytes and one
length-records_from : (cfg : Config) (n : ℕ) (s : State) (xs : List ℕ) → length (records_from cfg n s xs) ≤ n
unfolding records_from
length-records_from cfg zero s xs = omega arith
length-records_from cfg (suc n) s xs = by (next_record cfg s [] [] xs) (length-records_from cfg n)
  where
    by : (o : Option Read) → ((t : State) (ys : List ℕ) → length (records_from cfg n t ys) ≤ n) → length (records_next (records_from cfg n) o) ≤ suc n
    by None shorter = omega arith
    by (Some p) shorter = omega (arith, shorter p.1 p.2)

length-strip_bom : (xs : List ℕ) → length (strip_bom xs) ≤ length xs
unfolding strip_bom
length-strip_bom [] = omega arith
length-strip_bom (a ∷ []) = omega arith
length-strip_bom (a ∷ b ∷ []) = omega arith
length-strip_bom (a ∷ b ∷ c ∷ rest) = by (is_bom a b c)
  where
    by : (t : Bool) → length (if t then rest else a ∷ b ∷ c ∷ rest) ≤ length (a ∷ b ∷ c ∷ rest)
    by true = omega arith
    by false = omega arith

pub length-records_in : (page : List ℕ) → length (records_in page) ≤ length page + 1
length-records_in page =
    let fuel = length-records_from default_config (length (strip_bom page) + 1) st.StartRecord (strip_bom page) in
    omega (arith, fuel, length-strip_bom page)
