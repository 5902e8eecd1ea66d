-- The first record of very many fields, by a walk along the bytes.
use Rattle.std.proofs.Common.{◌≡◌, ◌≤◌, ◌<◌, ◌+◌, ◌==◌, ◌||◌, ◌&&◌, ◌∙◌, eqb, take, Bor, add-one, sym, ℕ, zero, suc, Bool, true, false, List, [], ◌∷◌, ◌++◌, Option, Some, None, length, refl, ap, arith, drop, get_or, if◌then◌else◌}
use Rattle.std.specs.Bool.{then_some}
use Rattle.std.specs.Cmp.Lexicographic.{pointwise}
use Rattle.std.specs.Prelude.{nat_le, nat_lt, unwrap_or, MatchOption}
use Rattle.std.specs.List.{count_by}
use Rattle.std.proofs.lemmas.Bool.{le-leb, lt-leb}
use Rattle.std.proofs.lemmas.Bool.Decides.{nat_tests}
use Rattle.std.proofs.lemmas.List.{at_drop_all, at_drop_more, length_push}
use Rattle.std.proofs.lemmas.List.Sums.{sum_by-cons}
use Rattle.csv.specs.Machine.{ends_at_end, fields_after, field_after, in_field, is_end, next_record, start_field, start_record, step}
use Rattle.csv.specs.Reading.{default_config, records, records_from, records_next, strip_bom}
use Rattle.csv.specs.declared.parser.Action.{Action}
use Rattle.csv.specs.declared.parser.Action.TheVariants as act
use Rattle.csv.specs.declared.parser.State.{State}
use Rattle.csv.specs.declared.parser.State.TheVariants as st
use Rattle.mari_rows.specs.Rows.{rows_from}
use Rattle.mari_rows.specs.Widths.{ended_by, first_wide}
use Rattle.mari_rows.specs.declared.widths.Ended.{Ended}
use Rattle.mari_rows.specs.declared.widths.Ended.TheVariants as ended

-- a byte that ends a field, and no record, is a comma
abbrev EndsByComma : ℕ → State × Action → Type 0
EndsByComma c p = p.1 ≡ act.EndField → (c == 44) ≡ true

choose : (c : ℕ) (b : Bool) (x y : State × Action) → (b ≡ true → EndsByComma c x) → EndsByComma c y → EndsByComma c (if b then x else y)
choose c true x y h k = h refl
choose c false x y h k = k

field-comma : (c : ℕ) → EndsByComma c (in_field default_config c)
field-comma c = choose c (c == 44) _ _ (λ comma _. comma) (choose c ((c == 13) || (c == 10)) _ _ (λ _ e. cc e) (λ e. cc e))

start-comma : (c : ℕ) → EndsByComma c (start_field default_config c)
start-comma c = choose c (c == 34) _ _ (λ _ e. cc e) (field-comma c)

record-comma : (c : ℕ) → EndsByComma c (start_record default_config c)
record-comma c = choose c ((c == 13) || (c == 10)) _ _ (λ _ e. cc e) (start-comma c)

step-comma : (s : State) (c : ℕ) → EndsByComma c (step default_config s c)
step-comma st.StartRecord c = record-comma c
step-comma st.StartField c = start-comma c
step-comma st.InField c = field-comma c
step-comma st.InQuoted c = choose c (c == 34) _ _ (λ _ e. cc e) (λ e. cc e)
step-comma st.InEscape c = λ e. cc e
step-comma st.AfterQuote c = choose c (c == 34) _ _ (λ _ e. cc e) (field-comma c)
step-comma st.InComment c = choose c (c == 10) _ _ (λ _ e. cc e) (λ e. cc e)
step-comma st.AfterCr c = choose c (c == 10) _ _ (λ _ e. cc e) (record-comma c)

module _ (most : ℕ) where
  -- the line of a record that ends, where it is wide, and else what comes after it
  abbrev pub at_end : (line commas : ℕ) → Option ℕ → Option ℕ
  at_end line commas after = if nat_le most commas then Some line else after

  -- the line of the first wide record, after what a byte ends
  abbrev pub after_byte : Ended → (line commas : ℕ) → (ℕ → ℕ → Option ℕ) → Option ℕ
  after_byte ended.Nothing line commas more = more line commas
  after_byte ended.Field line commas more = more line (commas + 1)
  after_byte ended.Record line commas more = at_end line commas (more (line + 1) 0)

  -- and from a state on, where `commas` fields of the record at hand are ended
  abbrev pub first_from : State → (line commas : ℕ) → List ℕ → Option ℕ
  first_from s line commas [] = if ends_at_end s then at_end line commas None else None
  first_from s line commas (c ∷ rest) =
      after_byte (ended_by (step default_config s c).1) line commas (λ line commas. first_from (step default_config s c).0 line commas rest)

  wider : (n : ℕ) → nat_lt most (n + 1) ≡ nat_le most n
  wider n = grind (arith, nat_tests)

  last-width : (fields : List (List ℕ)) (field : List ℕ) → nat_lt most (length (fields ++ (field ∷ []))) ≡ nat_le most (length fields)
  last-width fields field = ap (nat_lt most) (length_push fields field) ∙ wider (length fields)

  no-more : (n : ℕ) → records_from default_config n st.StartRecord [] ≡ []
  unfolding records_from next_record
  no-more zero = refl
  no-more (suc n) = refl

  -- the walk finds the first wide record among those that csv reads
  first_from-records : (xs : List ℕ) (n : ℕ) (s : State) (line : ℕ) (fields : List (List ℕ)) (field : List ℕ) → length xs ≤ n
      → first_from s line (length fields) xs ≡ first_wide most (rows_from line (records_next (records_from default_config n) (next_record default_config s fields field xs)))
  unfolding next_record records_from
  first_from-records [] n s line fields field enough = by (ends_at_end s)
    where
      by : (b : Bool) → (if b then at_end line (length fields) None else None)
          ≡ first_wide most (rows_from line (records_next (records_from default_config n) (if b then Some (fields ++ (field ∷ []), st.StartRecord, []) else None)))
      by false = refl
      by true = rw (no-more n, length_push fields field, wider (length fields)) refl
  first_from-records (c ∷ rest) zero s line fields field enough = absurd (omega (arith, enough))
  first_from-records (c ∷ rest) (suc n) s line fields field enough =
      by (step default_config s c).0 (step default_config s c).1
      (λ t fields field. first_from-records rest (suc n) t line fields field (omega (arith, enough)))
      (λ t. first_from-records rest n t (line + 1) [] [] (omega (arith, enough)))
    where
      by : (t : State) (a : Action)
          → ((t : State) (fields : List (List ℕ)) (field : List ℕ) → first_from t line (length fields) rest
          ≡ first_wide most (rows_from line (records_next (records_from default_config (suc n)) (next_record default_config t fields field rest))))
          → ((t : State) → first_from t (line + 1) 0 rest
          ≡ first_wide most (rows_from (line + 1) (records_next (records_from default_config n) (next_record default_config t [] [] rest))))
          → after_byte (ended_by a) line (length fields) (λ line commas. first_from t line commas rest)
          ≡ first_wide most (rows_from line (records_next (records_from default_config (suc n)) (if is_end a then Some (fields_after a fields field, t, rest)
          else next_record default_config t (fields_after a fields field) (field_after a c field) rest)))
      by t act.Skip same next = same t fields field
      by t act.Copy same next = same t fields (field ++ (c ∷ []))
      by t act.EndField same next = rw (length_push fields field) at (same t (fields ++ (field ∷ [])) [])
      by t act.EndRecord same next =
          ap (at_end line (length fields)) (next t)
          ∙ ap (λ b. if b then Some line else first_wide most (rows_from (line + 1) (records_from default_config (suc n) t rest))) (sym (last-width fields field))

  pub first-records : (text : List ℕ) → first_from st.StartRecord 1 0 text ≡ first_wide most (rows_from 1 (records default_config text))
  unfolding records_from
  first-records text = rw add-one (first_from-records text (length text) st.StartRecord 1 [] [] (omega arith))

  -- no record is wide where there are fewer commas
  few : (xs : List ℕ) (s : State) (line commas : ℕ) → commas + count_by (λ b. b == 44) xs < most → first_from s line commas xs ≡ None
  few [] s line commas short = by (ends_at_end s)
    where
      by : (b : Bool) → (if b then at_end line commas None else None) ≡ None
      by true = rw (lt-leb most commas (omega (arith, short))) refl
      by false = refl
  few (c ∷ rest) s line commas short =
      by (step default_config s c).0 (step default_config s c).1 (step-comma s c) (few rest)
    where
      counted : count_by (λ b. b == 44) (c ∷ rest) ≡ (if c == 44 then 1 else 0) + count_by (λ b. b == 44) rest
      counted = sum_by-cons (λ b. if b == 44 then 1 else 0) c rest

      one : (c == 44) ≡ true → ◌≡◌ {A = ℕ} (if c == 44 then 1 else 0) 1
      one comma = rw comma refl

      by : (t : State) (a : Action) → (a ≡ act.EndField → (c == 44) ≡ true)
          → ((t : State) (line commas : ℕ) → commas + count_by (λ b. b == 44) rest < most → first_from t line commas rest ≡ None)
          → after_byte (ended_by a) line commas (λ line commas. first_from t line commas rest) ≡ None
      by t act.Skip comma fewer = fewer t line commas (omega (arith, counted, short))
      by t act.Copy comma fewer = fewer t line commas (omega (arith, counted, short))
      by t act.EndField comma fewer = fewer t line (commas + 1) (omega (arith, counted, one (comma refl), short))
      by t act.EndRecord comma fewer =
          rw (lt-leb most commas (omega (arith, short))) (fewer t (line + 1) 0 (omega (arith, counted, short)))

  pub none-wide : (text : List ℕ) → count_by (λ b. b == 44) text < most → first_wide most (rows_from 1 (records default_config text)) ≡ None
  none-wide text short = sym (first-records text) ∙ few text st.StartRecord 1 0 (omega (arith, short))

  -- the end of the text, and one byte more
  pub first_from-all : (text : List ℕ) (i : ℕ) (s : State) (line commas : ℕ) → length text ≤ i
      → (if ends_at_end s then at_end line commas None else None) ≡ first_from s line commas (drop i text)
  first_from-all text i s line commas past = sym (at_drop_all (first_from s line commas) text i past)

  pub first_from-more : (text : List ℕ) (i : ℕ) (s t : State) (e : Ended) (line commas : ℕ) → i < length text
      → t ≡ (step default_config s (get_or text i 0)).0 → e ≡ ended_by (step default_config s (get_or text i 0)).1
      → after_byte e line commas (λ line commas. first_from t line commas (drop (i + 1) text)) ≡ first_from s line commas (drop i text)
  first_from-more text i s t e line commas there to ends = rw (to, ends) (sym (at_drop_more (first_from s line commas) text i 0 there))

  -- a wide record ends here, and another one
  pub at_end-wide : (line commas : ℕ) (after : Option ℕ) → most ≤ commas → at_end line commas after ≡ Some line
  at_end-wide line commas after wide = rw (le-leb most commas (omega (arith, wide))) refl

  pub at_end-narrow : (line commas : ℕ) (after : Option ℕ) → commas < most → at_end line commas after ≡ after
  at_end-narrow line commas after narrow = rw (lt-leb most commas (omega (arith, narrow))) refl

  -- a record that the text's end ends
  pub at_end-last : (line commas : ℕ) → then_some (nat_le most commas) line ≡ at_end line commas None
  at_end-last line commas = by (nat_le most commas)
    where
      by : (b : Bool) → then_some b line ≡ (if b then Some line else None)
      by true = refl
      by false = refl

-- what is left of a page that begins with a mark, and of one that doesn't
stripped : (page : List ℕ) → strip_bom page ≡ (if pointwise eqb (take 3 page) (0xEF ∷ 0xBB ∷ 0xBF ∷ []) then drop 3 page else page)
unfolding strip_bom
stripped [] = refl
stripped (a ∷ []) = by (a == 0xEF)
  where
    by : (b : Bool) → a ∷ [] ≡ (if b && false then [] else a ∷ [])
    by true = refl
    by false = refl
stripped (a ∷ b ∷ []) = by (a == 0xEF) (b == 0xBB)
  where
    by : (x y : Bool) → a ∷ b ∷ [] ≡ (if x && (y && false) then [] else a ∷ b ∷ [])
    by true true = refl
    by true false = refl
    by false y = refl
stripped (a ∷ b ∷ c ∷ rest) = by (a == 0xEF) (b == 0xBB) (c == 0xBF)
  where
    by : (x y z : Bool) → (if (x && y) && z then rest else a ∷ b ∷ c ∷ rest) ≡ (if x && (y && (z && true)) then rest else a ∷ b ∷ c ∷ rest)
    by true true true = refl
    by true true false = refl
    by true false z = refl
    by false y z = refl

pub unmarked : (page : Bor (List ℕ)) (o : Option (Bor (List ℕ)))
    → MatchOption o (pointwise eqb (take 3 page.now) (0xEF ∷ 0xBB ∷ 0xBF ∷ []) ≡ false)
    (λ x. (pointwise eqb (take 3 page.now) (0xEF ∷ 0xBB ∷ 0xBF ∷ []) ≡ true) × (x.now ≡ drop 3 page.now) × (length x.now + 3 ≡ length page.now))
    → (unwrap_or o page).now ≡ strip_bom page.now
unmarked page None is = sym (rw is at (stripped page.now))
unmarked page (Some x) is = is.1 ∙ sym (rw is.0 at (stripped page.now))
