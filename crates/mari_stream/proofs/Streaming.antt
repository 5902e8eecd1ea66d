-- A page whose parts are taken piece by piece.
use Rattle.std.proofs.Common.{◌≡◌, ◌∙◌, ◌+◌, ◌≤◌, ℕ, List, [], ◌∷◌, ◌++◌, length, drop, Option, Some, None, Ok, Err, inl, inr, refl, sym, ap, subst, arith}
use Rattle.std.specs.Option.{option_map}
use Rattle.std.proofs.lemmas.Bool.{cases_lt}
use Rattle.mari_io.specs.Outside.{IsOverlong, OpenStates, counted, most_given}
use Rattle.mari_io.specs.declared.shelf.Fetch.{Fetch}
use Rattle.mari_io.specs.declared.shelf.Fetch.TheVariants as fetch
use Rattle.mari_io.specs.declared.shelf.TheConstants.{MOST_PIECE}
use Rattle.mari_publish.proofs.Paging.{dropped}
use Rattle.mari_publish.specs.Streams.{stop_of_fetch, stop_of_opening, stop_of_text}
use Rattle.mari_publish.specs.declared.fault.TextFault.{TextFault}
use Rattle.mari_publish.specs.declared.fault.TextFault.TheVariants as fault
use Rattle.mari_publish.specs.declared.stream.ReadStop.{ReadStop}
use Rattle.mari_publish.specs.declared.stream.ReadStop.TheVariants.{Unopened, Fetch as OfFetch, Text as OfText, Part as OfPart, Memory as NoMemory}
use Rattle.mari_stream.specs.Coming.{AllCome, ComeState, ComesFrom, GivesNext, IsEnd, IsFirstFault, LinesKeep}
use Rattle.mari_stream.specs.Forms.{Form, HasPart, HoldsParts, IsLineFault, NoFault}
use Rattle.mari_stream.specs.Streams.{AllTaken, BrokeAt, HasTaken, IsReportedFault, IsTooLong, PartsReport, ReadStates, ReadStops, SomeStates, StopStates, StopsAtFault, TookAll, TookFirst, TookWhole}
use Rattle.mari_stream.specs.Streams.IsReportedFault.{OfPage as of-page, OfGiven as of-given}
use Rattle.mari_stream.proofs.LineByLine.{come-parts}
use Rattle.mari_stream.proofs.Lines.{follow-nothing, parts-stay}
use Rattle.mari_stream.proofs.Paging.{IsGiven, Under, all-of-it, and-rest, given-front, last-piece, one-piece, overlong-front, overlong-page, with-piece}
use Rattle.mari_stream.proofs.Stops.{fault-first, fault-stays, no-more}

module _ {K L P : Type 0} (form : Form K L P) where
  pub nothing : (text : List ℕ) → HoldsParts form text []
  nothing text = record { lines = []; rest = text; kept = form.start; is = refl; follow = follow-nothing form }

  -- ---- what was taken of a text stays that of a longer one

  first-stays : (Took : List P → Type 0) (text more : List ℕ) → TookFirst form Took text → TookFirst form Took (text ++ more)
  first-stays Took text more t = record { parts = t.parts; first = parts-stay form text more t.parts t.first; took = t.took }

  broke-stays : {X : Type 0} (Breaks : List P → P → X → Type 0) (text more : List ℕ) (stop : X) → BrokeAt form Breaks text stop → BrokeAt form Breaks (text ++ more) stop
  broke-stays Breaks text more stop b = record {
    parts = b.parts;
    part = b.part;
    first = parts-stay form text more b.parts b.first;
    there = parts-stay form text more (b.parts ++ b.part ∷ []) b.there;
    broke = b.broke;
  }

  -- ---- parts that are taken as they come

  pub part-there : (come : ComeState K) (text : List ℕ) (parts : List P) (o : Option P) (x : P) → o ≡ Some x → GivesNext form come text parts (Ok o) → ComesFrom form come text (parts ++ x ∷ [])
  part-there come text parts o x e h = subst (λ (y : Option P). GivesNext form come text parts (Ok y)) e h

  pub none-there : (come : ComeState K) (text : List ℕ) (parts : List P) (o : Option P) → o ≡ None → GivesNext form come text parts (Ok o) → AllCome form come text parts
  none-there come text parts o e h = subst (λ (y : Option P). GivesNext form come text parts (Ok y)) e h

  module _ (Took : List P → Type 0) (text : List ℕ) (parts : List P) (come : ComeState K) (taken : HasTaken form Took text parts come) where
    -- the text has a fault
    pub fault-reported : {X : Type 0} (Breaks : List P → P → X → Type 0) (new : ComeState K) (f : TextFault) → IsFirstFault form text parts f
        → PartsReport form Took Breaks text new (Err (stop_of_text f))
    fault-reported Breaks new f h = grind arith

    -- a part wasn't taken
    pub part-broke : {X : Type 0} (Breaks : List P → P → X → Type 0) (x : P) (stop : X) → HasPart form text parts x → Breaks parts x stop → BrokeAt form Breaks text stop
    part-broke Breaks x stop there broke = record { parts = parts; part = x; first = come-parts form come text parts taken.stands; there = there; broke = broke }

  -- ---- a page as far as it was read

  -- all parts of what has come were taken
  abbrev pub TakesSome : (Took : List P → Type 0) → ComeState K → List ℕ → Type 0
  TakesSome Took come text = AllTaken form Took text come

  all-first : (Took : List P → Type 0) (come : ComeState K) (text : List ℕ) → AllTaken form Took text come → TookFirst form Took text
  all-first Took come text a = record { parts = a.parts; first = come-parts form come text a.parts a.all.stands; took = a.took }

  all-all : (Took : List P → Type 0) (come : ComeState K) (text : List ℕ) → AllTaken form Took text come → TookAll form Took text
  all-all Took come text a = record { parts = a.parts; first = come-parts form come text a.parts a.all.stands; none = a.all.none; took = a.took }

  -- the piece has come
  pub piece-come : (Took : List P → Type 0) (old new : ComeState K) (page rest : Option (List ℕ)) (given : ℕ) (u : Under (TakesSome Took old) page rest given) (piece : List ℕ)
      → ((text : List ℕ) (parts : List P) → ComesFrom form old text parts → ComesFrom form new (text ++ piece) parts) → HasTaken form Took (u.text ++ piece) u.known.parts new
  piece-come Took old new page rest given u piece more = record { stands = more u.text u.known.parts u.known.all.stands; took = u.known.took }

  module _ (law : LinesKeep form) where
    all-stays : (Took : List P → Type 0) (text more : List ℕ) (f : TextFault) → IsLineFault form text f → TookAll form Took text → TookAll form Took (text ++ more)
    all-stays Took text more f bad t = record { parts = t.parts; first = parts-stay form text more t.parts t.first; none = no-more form law text more t.parts f bad t.none; took = t.took }

    -- the fault of a line is reported once the line is given
    line-reported : (text more : List ℕ) (f : TextFault) → length text ≤ most_given → IsLineFault form text f → IsReportedFault form (text ++ more) f
    line-reported text more f few h = elim (cases_lt most_given (length (text ++ more))) [
      | inl long ↦
          let front = given-front text more few in
          let Q : List ℕ → Type 0 = λ xs. IsLineFault form xs f in
          of-given long (subst Q front.1 (fault-stays form law text front.0 f h))
      | inr short ↦ of-page (omega (arith, short)) (fault-first form law (text ++ more) f (fault-stays form law text more f h))
    ]

    -- so is whatever stopped the taking of what has come
    stop-stays : {X : Type 0} (Took : List P → Type 0) (Breaks : List P → P → X → Type 0) (come : ComeState K) (text more : List ℕ) → length text ≤ most_given → (stop : ReadStop X)
        → PartsReport form Took Breaks text come (Err stop) → StopStates form Took Breaks (text ++ more) stop
    stop-stays Took Breaks come text more few (OfText f) h = (line-reported text more f few h.0, all-stays Took text more f h.0 h.1)
    stop-stays Took Breaks come text more few (OfPart stop) h =
        let front = given-front text more few in
        subst (λ (xs : List ℕ). BrokeAt form Breaks xs stop) front.1 (broke-stays Breaks text front.0 stop h)
    stop-stays Took Breaks come text more few NoMemory h = first-stays Took text more h
    stop-stays Took Breaks come text more few stop h = grind arith

    module _ (Took : List P → Type 0) (old : ComeState K) (page rest : Option (List ℕ)) (given : ℕ) (u : Under (TakesSome Took old) page rest given) where
      pub of-page-so-far : (whole : List ℕ) → page ≡ Some whole → TookFirst form Took whole
      of-page-so-far whole is = let t = u.reported whole is in subst (TookFirst form Took) t.2 (first-stays Took u.text t.0 (all-first Took old u.text u.known))

      pub some-so-far : (text : List ℕ) × TookFirst form Took text
      some-so-far = (u.text, all-first Took old u.text u.known)

      module _ {X : Type 0} (Breaks : List P → P → X → Type 0) where
        -- the fetch of a piece failed
        pub piece-fault : (f : Fetch) → (f ≡ fetch.Missing → ⊥) → (f ≡ fetch.TooLong → IsOverlong rest given) → (whole : List ℕ) → page ≡ Some whole
            → StopStates form Took Breaks whole (stop_of_fetch f)
        piece-fault fetch.Failed not over whole is = of-page-so-far whole is
        piece-fault fetch.Missing not over whole is = absurd (not refl)
        piece-fault fetch.Memory not over whole is = of-page-so-far whole is
        piece-fault fetch.TooLong not over whole is =
            let front = overlong-front _ _ _ _ u (over refl) whole is in
            let long : IsTooLong form whole = record { longer = overlong-page _ _ _ _ u (over refl) whole is; no_fault = subst (λ (xs : List ℕ). NoFault form xs) front u.known.all.no_fault } in
            (long, subst (TookAll form Took) front (all-all Took old u.text u.known))

        pub piece-any : (f : Fetch) → (f ≡ fetch.Missing → ⊥) → SomeStates form Took Breaks (Err (stop_of_fetch f))
        piece-any f not = grind arith

      module _ (piece : List ℕ) (n : ℕ) (p : IsGiven rest given piece n) where
        -- the taking of what has come stops
        pub parts-stop : (whole : List ℕ) → page ≡ Some whole → {X : Type 0} (Now : List P → Type 0) (Breaks : List P → P → X → Type 0) (come : ComeState K) (stop : ReadStop X)
            → PartsReport form Now Breaks (u.text ++ piece) come (Err stop) → StopStates form Now Breaks whole stop
        parts-stop whole is Now Breaks come stop h =
            let few = with-piece _ _ _ _ u piece n p in
            let all = all-of-it _ _ _ _ u piece n p whole is in
            subst (λ (xs : List ℕ). StopStates form Now Breaks xs stop) all (stop-stays Now Breaks come (u.text ++ piece) (drop n (u.reported whole is).0) few stop h)

        -- and nothing more is read
        module _ (whole : List ℕ) (is : page ≡ Some whole) {X : Type 0} (Now : List P → Type 0) (Breaks : List P → P → X → Type 0) (come : ComeState K)
            {S : Type 0} (rest-of : S → Option (List ℕ)) (calls : S → ℕ) (before after : S) (begun : rest-of before ≡ rest)
            (left_is : rest-of after ≡ option_map (λ l. drop n l) rest) (call : calls after ≡ counted (calls before)) (few : n ≤ MOST_PIECE) where
          line-stops : (f : TextFault) → IsLineFault form (u.text ++ piece) f → StopsAtFault form rest-of calls whole f after
          line-stops f h =
              let left : (left : List ℕ) × (rest ≡ Some left) × (u.text ++ left ≡ whole) = u.reported whole is in
              let all : piece ++ drop n left.0 ≡ left.0 = and-rest _ _ _ _ u piece n p whole is in
              record {
                read = u.text;
                piece = piece;
                left = drop n left.0;
                page_is = sym (ap (λ (xs : List ℕ). u.text ++ xs) all ∙ left.2);
                no_fault = u.known.all.no_fault;
                here = h;
                few = omega (arith, p.many, few);
                before = before;
                all_left = begun ∙ left.1 ∙ ap (λ (xs : List ℕ). Some xs) (sym all);
                last_call = call;
                left_is = dropped rest (rest-of after) left.0 n left.1 left_is;
              }

          pub reading-stops : (stop : ReadStop X) → PartsReport form Now Breaks (u.text ++ piece) come (Err stop) → ReadStops form rest-of calls whole after stop
          reading-stops (OfText (fault.BadLine n)) h = line-stops (fault.BadLine n) h.0
          reading-stops (OfText (fault.BadOrder n)) h = line-stops (fault.BadOrder n) h.0
          reading-stops (OfText (fault.Truncated n)) h = tt
          reading-stops (OfText fault.Memory) h = tt
          reading-stops (Unopened f) h = tt
          reading-stops (OfFetch f) h = tt
          reading-stops (OfPart stop) h = tt
          reading-stops NoMemory h = tt

        module _ (Now : List P → Type 0) (new : ComeState K) (all : AllTaken form Now (u.text ++ piece) new) where
          -- there is more of it
          pub more-taken : (after : Option (List ℕ)) (more : ℕ) → after ≡ option_map (λ l. drop n l) rest → more ≡ given + n → Under (TakesSome Now new) page after more
          more-taken after more left_is given_is = one-piece _ _ _ _ u piece n p (TakesSome Now new) all after more left_is given_is

          -- that was its end
          pub last-taken : n ≡ 0 → (whole : List ℕ) → page ≡ Some whole → (length whole ≤ most_given) × AllTaken form Now whole new
          last-taken none whole is =
              let l = last-piece _ _ _ _ u piece n p none whole is in
              (l.0, subst (λ (xs : List ℕ). AllTaken form Now xs new) l.1 all)

  -- what stopped the taking, on any shelf
  module _ {X : Type 0} (Took : List P → Type 0) (Breaks : List P → P → X → Type 0) (text : List ℕ) (come : ComeState K) where
    pub parts-any : (stop : ReadStop X) → PartsReport form Took Breaks text come (Err stop) → SomeStates form Took Breaks (Err stop)
    parts-any stop h = grind arith

  -- ---- the page as a whole

  module _ {X : Type 0} (Took : List P → Type 0) (Breaks : List P → P → X → Type 0) where
    -- opening it gave none
    pub open-fault : (T : Type 0) (page rest : Option (List ℕ)) (f : Fetch) → Took [] → OpenStates {T = T} page rest (Err f) → ReadStates form Took Breaks page (Err (stop_of_opening f))
    open-fault T page rest f none h = grind (arith, nothing)

    pub open-any : (f : Fetch) → (f ≡ fetch.TooLong → ⊥) → Took [] → SomeStates form Took Breaks (Err (stop_of_opening f))
    open-any f not none = grind (arith, nothing)

    module _ (page : List ℕ) (come : ComeState K) (all : AllTaken form Took page come) where
      -- its end was read
      whole : {T : Type 0} (done : T) → IsEnd form page all.parts (Ok done) → TookWhole form Took page
      whole done e = record { parts = all.parts; whole = e; took = all.took }

      pub end-whole : {T : Type 0} (done : T) → length page ≤ most_given → IsEnd form page all.parts (Ok done) → ReadStates form Took Breaks (Some page) (Ok tt)
      end-whole done short e = (short, whole done e)

      pub end-any : {T : Type 0} (done : T) → IsEnd form page all.parts (Ok done) → SomeStates form Took Breaks (Ok tt)
      end-any done e = (page, whole done e)

      pub end-reported : (T : Type 0) (f : TextFault) → length page ≤ most_given → IsEnd {T = T} form page all.parts (Err f) → ReadStates form Took Breaks (Some page) (Err (stop_of_text f))
      end-reported T f short h = grind arith

      pub end-cut : (T : Type 0) (f : TextFault) → IsEnd {T = T} form page all.parts (Err f) → SomeStates form Took Breaks (Err (stop_of_text f))
      end-cut T (fault.Truncated n) h = (page, all-first Took come page all)
      end-cut T f h = grind arith

  -- ---- no fault of the shelf is one of a line, nor is one at the end of the text

  module _ {S : Type 0} (X : Type 0) (rest-of : S → Option (List ℕ)) (calls : S → ℕ) (page : List ℕ) (shelf : S) where
    pub fetch-stops : (f : Fetch) → ReadStops {X = X} form rest-of calls page shelf (stop_of_fetch f)
    fetch-stops fetch.Failed = tt
    fetch-stops fetch.Missing = tt
    fetch-stops fetch.TooLong = tt
    fetch-stops fetch.Memory = tt

    pub opening-stops : (f : Fetch) → ReadStops {X = X} form rest-of calls page shelf (stop_of_opening f)
    opening-stops fetch.Failed = tt
    opening-stops fetch.Missing = tt
    opening-stops fetch.TooLong = tt
    opening-stops fetch.Memory = tt

    pub end-stops : (T : Type 0) (text : List ℕ) (parts : List P) (f : TextFault) → IsEnd {T = T} form text parts (Err f) → ReadStops {X = X} form rest-of calls page shelf (stop_of_text f)
    end-stops T text parts f h = grind arith
