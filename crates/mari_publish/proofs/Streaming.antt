-- A page whose parts are taken piece by piece.
use Rattle.std.proofs.Common.{◌≡◌, ◌∙◌, ◌+◌, ◌≤◌, ℕ, List, [], ◌∷◌, ◌++◌, length, take, drop, Option, Some, None, Ok, Err, refl, sym, ap, subst, add-one, arith}
use Rattle.std.specs.Prelude.{IsErrOf}
use Rattle.std.specs.Option.{option_map}
use Rattle.mari_io.specs.Outside.{Counts, IsOverlong, IsPiece, OpenStates, counted, counted_by, most_given}
use Rattle.mari_io.specs.declared.shelf.Fetch.{Fetch}
use Rattle.mari_io.specs.declared.shelf.Fetch.TheVariants as fetch
use Rattle.mari_io.specs.declared.shelf.TheConstants.{MOST_PIECE}
use Rattle.mari_io.proofs.Counting.{counts_as}
use Rattle.mari_publish.specs.Order.{nothing_kept}
use Rattle.mari_publish.specs.Paged.{IsLineFault}
use Rattle.mari_publish.specs.Pieces.{ComeState, ComesFrom, HoldsParts, IsEnd, IsNext, NoPart, ReaderState, found_none, with_part}
use Rattle.mari_publish.specs.declared.fault.TextFault.{TextFault}
use Rattle.mari_publish.specs.declared.fault.TextFault.TheVariants as fault
use Rattle.mari_publish.specs.declared.publication.Part.{Part}
use Rattle.mari_publish.proofs.FirstParts.{come_parts, no_more}
use Rattle.mari_publish.proofs.MoreText.{parts_stay}
use Rattle.mari_publish.proofs.Paging.{Under, all-of-it, and-rest, dropped, given-front, last-piece, line-fault, one-piece, overlong-front, overlong-page, with-piece}
use Rattle.mari_publish.specs.declared.coming.Ahead.TheVariants as ahead
use Rattle.mari_publish.proofs.PartsGiven.{gives_nothing}
use Rattle.mari_publish.proofs.Pieces.{nothing_next}
use Rattle.mari_publish.specs.Streams.{AllTaken, AsksForPage, AsksForPieces, BrokeAt, HasTaken, IsPartFault, IsReadFetch, IsUnopened, IsWrapped, PartsReport, ReadStates, ReadStops, SomePieces, SomeStates, StopStates, StopsAtFault, TookAll, TookFirst, TookPublication, stop_of_fetch, stop_of_opening, stop_of_text}
use Rattle.mari_publish.specs.declared.stream.ReadStop.{ReadStop}
use Rattle.mari_publish.specs.declared.stream.ReadStop.TheVariants.{Unopened, Fetch as OfFetch, Text as OfText, Part as OfPart, Memory as NoMemory}

-- ---- what was taken of a text stays that of a longer one

module _ (Took : List Part → Type 0) (text left : List ℕ) where
  first-stays : TookFirst Took text → TookFirst Took (text ++ left)
  first-stays t = record { parts = t.parts; first = parts_stay text left t.parts t.first; took = t.took }

  all-stays : (f : TextFault) → IsLineFault text f → TookAll Took text → TookAll Took (text ++ left)
  all-stays f bad t = record { parts = t.parts; first = parts_stay text left t.parts t.first; none = no_more text left t.parts f bad t.none; took = t.took }

broke-stays : {X : Type 0} (Breaks : List Part → Part → X → Type 0) (text left : List ℕ) (stop : X) → BrokeAt Breaks text stop → BrokeAt Breaks (text ++ left) stop
broke-stays Breaks text left stop b = record {
  parts = b.parts;
  part = b.part;
  first = parts_stay text left b.parts b.first;
  there = parts_stay text left (b.parts ++ b.part ∷ []) b.there;
  broke = b.broke;
}

nothing : (text : List ℕ) → HoldsParts text []
nothing text = record { lines = []; after = text; is = refl; in_range = tt; kept = nothing_kept; gives = gives_nothing }

-- nothing holds no part
nothing-held : NoPart [] []
nothing-held =
    let start : ComeState = record { kept = nothing_kept; lines = 0; ahead = ahead.Whole; unread = [] } in
    let stands : ComesFrom start [] [] = record { lines = []; rest = []; is = refl; in_range = tt; gives = gives_nothing; number = refl; ahead = refl } in
    (nothing_next start [] [] stands refl).0

-- ---- parts that are taken as they come

module _ (Took : List Part → Type 0) (text : List ℕ) (parts : List Part) (come : ComeState) (taken : HasTaken Took text parts come) where
  pub took-first : TookFirst Took text
  took-first = record { parts = parts; first = come_parts come text parts taken.stands; took = taken.took }

  took-all : NoPart text parts → TookAll Took text
  took-all none = record { parts = parts; first = come_parts come text parts taken.stands; none = none; took = taken.took }

  -- the text has a fault
  pub fault-reported : {X : Type 0} (Breaks : List Part → Part → X → Type 0) (reader : ReaderState) (f : TextFault) → IsNext text parts (Err f)
      → PartsReport Took Breaks text reader (Err (stop_of_text f))
  fault-reported Breaks reader (fault.BadLine n) h = (h.0, took-all h.1)
  fault-reported Breaks reader (fault.BadOrder n) h = (h.0, took-all h.1)
  fault-reported Breaks reader (fault.Truncated n) h = absurd h
  fault-reported Breaks reader fault.Memory h = took-first

-- there is no further part
pub all-taken : (Took : List Part → Type 0) (text : List ℕ) (parts : List Part) (reader : ReaderState) (o : Option Part)
    → o ≡ None → IsNext text parts (Ok o) → ComesFrom reader.come text (with_part parts o)
    → reader.waits ≡ found_none (Ok o) → Took parts → AllTaken Took text reader
all-taken Took text parts reader (Some x) e n s w took = absurd cc
all-taken Took text parts reader None e n s w took = record { parts = parts; taken = record { stands = s; took = took }; waits = w; none = n.0; no_fault = n.1 }

-- ---- a page as far as it was read

-- all parts of what has come were taken
pub record TakesSome (Took : List Part → Type 0) (reader : ReaderState) (text : List ℕ) : Type 0 where
  pub parts : List Part
  pub taken : HasTaken Took text parts reader.come
  pub none : NoPart text parts

module _ (Took : List Part → Type 0) (page rest : Option (List ℕ)) (given : ℕ) (old : ReaderState) (u : Under (TakesSome Took old) page rest given) where
  pub some-taken : TookFirst Took u.text
  some-taken = took-first Took u.text u.known.parts old.come u.known.taken

  pub of-page-so-far : (whole : List ℕ) → page ≡ Some whole → TookFirst Took whole
  of-page-so-far whole is = let t = u.reported whole is in subst (TookFirst Took) t.2 (first-stays Took u.text t.0 some-taken)

  module _ {X : Type 0} (Breaks : List Part → Part → X → Type 0) where
    -- the fetch of a piece failed
    pub piece-fault : (f : Fetch) → (f ≡ fetch.Missing → ⊥) → (f ≡ fetch.TooLong → IsOverlong rest given) → (whole : List ℕ) → page ≡ Some whole → StopStates Took Breaks whole (stop_of_fetch f)
    piece-fault fetch.TooLong not over whole is =
        let front = overlong-front _ _ _ _ u (over refl) whole is in
        let all : TookAll Took u.text = took-all Took u.text u.known.parts old.come u.known.taken u.known.none in
        (overlong-page _ _ _ _ u (over refl) whole is, subst (TookAll Took) front all)
    piece-fault _ not over whole is = grind (arith, of-page-so-far)

    pub piece-any : (f : Fetch) → (f ≡ fetch.Missing → ⊥) → (reader : ReaderState) → SomePieces Took Breaks reader (Err (stop_of_fetch f))
    piece-any f not reader = grind arith

  module _ (piece : List ℕ) (n : ℕ) (many : length piece ≡ n) (within : given + n ≤ most_given) (is_piece : (left : List ℕ) → rest ≡ Some left → IsPiece left [] piece n) where
    module _ (whole : List ℕ) (is : page ≡ Some whole) where
      abbrev more : List ℕ
      more = drop n (u.reported whole is).0

      same : (u.text ++ piece) ++ more ≡ whole
      same = all-of-it _ _ _ _ u piece n many within is_piece whole is

      module _ {X : Type 0} (Now : List Part → Type 0) (Breaks : List Part → Part → X → Type 0) (reader : ReaderState) where
        -- the taking of what has come stops
        pub parts-stop : (stop : ReadStop X) → PartsReport Now Breaks (u.text ++ piece) reader (Err stop) → StopStates Now Breaks whole stop
        parts-stop (Unopened f) h = absurd h
        parts-stop (OfFetch f) h = absurd h
        parts-stop (OfText f) h = (
          line-fault _ _ _ _ u piece n many within is_piece whole is f h.0,
          subst (TookAll Now) same (all-stays Now (u.text ++ piece) more f h.0 h.1),
        )
        parts-stop (OfPart stop) h =
            let front = given-front (u.text ++ piece) more (with-piece _ _ _ _ u piece n many within is_piece) in
            let own : BrokeAt Breaks (take most_given ((u.text ++ piece) ++ more)) stop =
            subst (λ (xs : List ℕ). BrokeAt Breaks xs stop) front.1 (broke-stays Breaks (u.text ++ piece) front.0 stop h) in
            subst (λ (xs : List ℕ). BrokeAt Breaks (take most_given xs) stop) same own
        parts-stop NoMemory h = subst (TookFirst Now) same (first-stays Now (u.text ++ piece) more h)

        -- and nothing more is read
        module _ {S : Type 0} (rest_of : S → Option (List ℕ)) (calls : S → ℕ) (before after : S) (begun : rest_of before ≡ rest) (left_is : rest_of after ≡ option_map (λ l. drop n l) rest)
            (call : calls after ≡ counted (calls before)) (few : n ≤ MOST_PIECE) where
          line-stops : (f : TextFault) → IsLineFault (u.text ++ piece) f → StopsAtFault rest_of calls whole f after
          line-stops f h =
              let left : (left : List ℕ) × (rest ≡ Some left) × (u.text ++ left ≡ whole) = u.reported whole is in
              let all : piece ++ drop n left.0 ≡ left.0 = and-rest _ _ _ _ u piece n many within is_piece whole is in
              record {
                read = u.text;
                piece = piece;
                left = drop n left.0;
                page_is = sym (ap (λ (xs : List ℕ). u.text ++ xs) all ∙ left.2);
                no_fault = u.no_fault;
                here = h;
                few = omega (arith, many, few);
                before = before;
                all_left = begun ∙ left.1 ∙ ap (λ (xs : List ℕ). Some xs) (sym all);
                last_call = call;
                left_is = dropped rest (rest_of after) left.0 n left.1 left_is;
              }

          pub reading-stops : (stop : ReadStop X) → PartsReport Now Breaks (u.text ++ piece) reader (Err stop) → ReadStops rest_of calls whole after stop
          reading-stops stop h = grind (arith, line-stops)

    module _ (Now : List Part → Type 0) (new : ReaderState) (all : AllTaken Now (u.text ++ piece) new) where
      -- there is more of it
      pub more-taken : (after : Option (List ℕ)) (more : ℕ) → after ≡ option_map (λ l. drop n l) rest → more ≡ given + n → Under (TakesSome Now new) page after more
      more-taken after more left_is given_is =
          one-piece _ _ _ _ u piece n many within is_piece (TakesSome Now new)
          (record { parts = all.parts; taken = all.taken; none = all.none }) all.no_fault after more left_is given_is

      -- that was its end
      pub last-taken : n ≡ 0 → (whole : List ℕ) → page ≡ Some whole → (length whole ≤ most_given) × AllTaken Now whole new
      last-taken none whole is =
          let l = last-piece _ _ _ _ u piece n many within is_piece none whole is in
          (l.0, subst (λ (xs : List ℕ). AllTaken Now xs new) l.1 all)

-- ---- what is no fault of the shelf, and doesn't say that memory ran out

module _ {X : Type 0} (Took : List Part → Type 0) (Breaks : List Part → Part → X → Type 0) (text : List ℕ) (reader : ReaderState) where
  pub parts-any : (stop : ReadStop X) (after : ReaderState) → PartsReport Took Breaks text reader (Err stop) → SomePieces Took Breaks after (Err stop)
  parts-any stop after h = grind arith

  pub parts-opened : (stop : ReadStop X) → PartsReport Took Breaks text reader (Err stop) → IsUnopened {T = Unit {0}} (Err stop) → ⊥
  parts-opened stop h w = grind arith

  pub parts-never : (stop : ReadStop X) → PartsReport Took Breaks text reader (Err stop) → IsWrapped {T = Unit {0}} (Err stop) → ⊥
  parts-never stop h w = grind arith

  pub parts-no-fetch : (stop : ReadStop X) (f : Fetch) → PartsReport Took Breaks text reader (Err stop) → IsReadFetch {T = Unit {0}} f (Err stop) → ⊥
  parts-no-fetch stop f h w = grind arith

module _ (X : Type 0) where
  pub fetch-opened : (f : Fetch) → IsUnopened {T = Unit {0}} {X = X} (Err (stop_of_fetch f)) → ⊥
  fetch-opened f h = grind arith

  pub text-opened : (f : TextFault) → IsUnopened {T = Unit {0}} {X = X} (Err (stop_of_text f)) → ⊥
  text-opened f h = grind arith

  pub fetch-never : (f : Fetch) → IsWrapped {T = Unit {0}} {X = X} (Err (stop_of_fetch f)) → ⊥
  fetch-never f h = grind arith

  pub opening-never : (f : Fetch) → IsWrapped {T = Unit {0}} {X = X} (Err (stop_of_opening f)) → ⊥
  opening-never f h = grind arith

  pub text-never : (f : TextFault) → IsWrapped {T = Unit {0}} {X = X} (Err (stop_of_text f)) → ⊥
  text-never f h = grind arith

  pub text-no-fetch : (f : TextFault) (g : Fetch) → IsReadFetch {T = Unit {0}} {X = X} g (Err (stop_of_text f)) → ⊥
  text-no-fetch f g h = grind arith

  same-fetch : (f g : Fetch) → IsReadFetch {T = Unit {0}} {X = X} g (Err (stop_of_fetch f)) → f ≡ g
  same-fetch f g h = grind arith

  same-opening : (f g : Fetch) → IsReadFetch {T = Unit {0}} {X = X} g (Err (stop_of_opening f)) → f ≡ g
  same-opening f g h = grind arith

  pub counts-on : (T : Type 0) (f g : Fetch) (a b c : ℕ) → a ≤ b → Counts (IsErrOf {T = T} (Err f) g) b c → Counts (IsReadFetch {T = Unit {0}} {X = X} g (Err (stop_of_fetch f))) a c
  counts-on T f g a b c l n = counts_as T _ f g a b c (same-fetch f g) l n

  pub counts-opening : (T : Type 0) (f g : Fetch) (a c : ℕ) → Counts (IsErrOf {T = T} (Err f) g) a c → Counts (IsReadFetch {T = Unit {0}} {X = X} g (Err (stop_of_opening f))) a c
  counts-opening T f g a c n = counts_as T _ f g a a c (same-opening f g) (omega arith) n

  -- what is no fault of a part
  module _ (IsFault : X → Type 0) where
    pub opening-no-part : (f : Fetch) → IsPartFault {T = Unit {0}} IsFault (Err (stop_of_opening f)) → ⊥
    opening-no-part f h = grind arith

    pub fetch-no-part : (f : Fetch) → IsPartFault {T = Unit {0}} IsFault (Err (stop_of_fetch f)) → ⊥
    fetch-no-part f h = grind arith

    pub text-no-part : (f : TextFault) → IsPartFault {T = Unit {0}} IsFault (Err (stop_of_text f)) → ⊥
    text-no-part f h = grind arith

  -- no fault of the shelf is one of a line, nor is one at the end of the text
  module _ {S : Type 0} (rest_of : S → Option (List ℕ)) (calls : S → ℕ) (page : List ℕ) (shelf : S) where
    pub fetch-stops : (f : Fetch) → ReadStops {X = X} rest_of calls page shelf (stop_of_fetch f)
    fetch-stops f = grind arith

    pub opening-stops : (f : Fetch) → ReadStops {X = X} rest_of calls page shelf (stop_of_opening f)
    opening-stops f = grind arith

    pub end-stops : (T : Type 0) (text : List ℕ) (parts : List Part) (f : TextFault) → IsEnd {T = T} text parts (Err f) → ReadStops {X = X} rest_of calls page shelf (stop_of_text f)
    end-stops T text parts f h = grind arith

-- ---- which calls the shelf gets

-- one more, for a piece
pub one-call : (n before mid now given : ℕ) → mid ≡ counted_by n before → now ≡ counted mid → n ≤ given → AsksForPieces before now given
one-call n before mid now given e f few = record { pieces = n + 1; few = omega (arith, few); asked = rw add-one (f ∙ ap counted e) }

pub one-more : (n before mid now : ℕ) → mid ≡ counted_by n before → now ≡ counted mid → now ≡ counted_by (n + 1) before
one-more n before mid now e f = rw add-one (f ∙ ap counted e)

-- ---- the page as a whole

module _ {X : Type 0} (Took : List Part → Type 0) (Breaks : List Part → Part → X → Type 0) where
  -- opening it gave none
  pub open-fault : (T : Type 0) (page rest : Option (List ℕ)) (f : Fetch) → Took [] → OpenStates {T = T} page rest (Err f) → ReadStates Took Breaks page (Err (stop_of_opening f))
  open-fault T None rest fetch.Failed none h = none
  open-fault T None rest fetch.Missing none h = none
  open-fault T None rest fetch.Memory none h = none
  open-fault T (Some page) rest fetch.Failed none h = none
  open-fault T (Some page) rest fetch.Memory none h = record { parts = []; first = nothing page; took = none }
  open-fault T _ rest _ none h = grind arith

  pub open-any : (f : Fetch) → (f ≡ fetch.TooLong → ⊥) → Took [] → SomeStates Took Breaks (Err (stop_of_opening f))
  open-any fetch.Failed not none = none
  open-any fetch.Missing not none = none
  open-any fetch.TooLong not none = absurd (not refl)
  open-any fetch.Memory not none = ([], record { parts = []; first = nothing []; took = none })

  module _ (page : List ℕ) (reader : ReaderState) (all : AllTaken Took page reader) where
    -- its end was read
    publication : {T : Type 0} (done : T) → IsEnd page all.parts (Ok done) → TookPublication Took page
    publication done e = record {
      publication = e.0;
      is = e.1;
      first = subst (HoldsParts page) e.2 (come_parts reader.come page all.parts all.taken.stands);
      took = subst Took e.2 all.taken.took;
    }

    pub end-whole : {T : Type 0} (done : T) → length page ≤ most_given → IsEnd page all.parts (Ok done) → ReadStates Took Breaks (Some page) (Ok tt)
    end-whole done short e = (short, publication done e)

    pub end-any : {T : Type 0} (done : T) → IsEnd page all.parts (Ok done) → SomeStates Took Breaks (Ok tt)
    end-any done e = (page, publication done e)

    pub end-reported : (T : Type 0) (f : TextFault) → length page ≤ most_given → IsEnd {T = T} page all.parts (Err f) → ReadStates Took Breaks (Some page) (Err (stop_of_text f))
    end-reported T f short h = grind arith

    pub end-cut : (T : Type 0) (f : TextFault) → IsEnd {T = T} page all.parts (Err f) → SomeStates Took Breaks (Err (stop_of_text f))
    end-cut T (fault.Truncated n) h = (page, took-first Took page all.parts reader.come all.taken)
    end-cut T _ h = grind arith

-- ---- the same for another call

-- where something happens only if another thing does, and that is counted
pub counts-for : (X Y : Type 0) (a c : ℕ) → (Y → X) → Counts X a c → Counts Y a c
counts-for X Y a c only n = record { later = n.later; rose = λ y. n.rose (only y) }

pub asks-as : (X Y : Type 0) (before now given : ℕ) → (Y → X) → AsksForPage X before now given → AsksForPage Y before now given
asks-as X Y before now given only a = record { pieces = a.pieces; few = a.few; none = λ y. a.none (only y); asked = a.asked }
