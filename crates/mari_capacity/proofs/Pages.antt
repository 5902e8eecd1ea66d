-- What is said of a page that isn't read to its end.
use Rattle.std.proofs.Common.{◌≡◌, ◌≤◌, ◌++◌, ◌∷◌, ℕ, List, [], length, Option, Some, None, Result, Ok, Err, refl, sym, subst, arith}
use Rattle.std.specs.Prelude.{IfErr, IfOk, OnOk}
use Rattle.mari_io.specs.Outside.{most_given}
use Rattle.mari_io.specs.declared.shelf.Fetch.{Fetch}
use Rattle.mari_io.specs.declared.shelf.Fetch.TheVariants as fetch
use Rattle.mari_publish.specs.Streams.{ReadStates, SomeStates}
use Rattle.mari_publish.specs.declared.publication.Part.{Part}
use Rattle.mari_publish.specs.declared.stream.ReadStop.{ReadStop}
use Rattle.mari_publish.specs.declared.stream.ReadStop.TheVariants as read
use Rattle.mari_remain.specs.declared.books.Books.{Books}
use Rattle.mari_capacity.specs.declared.ending.ValueStop.{ValueStop}
use Rattle.mari_capacity.specs.declared.ending.ValueStop.TheVariants.{At}
use Rattle.mari_capacity.specs.declared.ending.ValueEnd.{ValueEnd}
use Rattle.mari_capacity.specs.declared.ending.ValueEnd.TheVariants.{Invalid, Fetch as OfFetch}
use Rattle.mari_capacity.specs.declared.ending.Valued.{Valued}
use Rattle.mari_capacity.specs.declared.stream.ValuesSoFar.{ValuesSoFar}
use Rattle.mari_capacity.specs.Streams.{IsPageEnd, IsPageFault, LinesReport, ValueStates}
use Rattle.mari_capacity.specs.Taking.{HasTaken, KeepsValues, StopsAtPart, StopsValues, TookWhole}
use Rattle.mari_capacity.specs.Streams.EndsInvalid.{AtPart}
use Rattle.mari_capacity.specs.Streams.EndsFailed.{Midway}

-- ---- a part that is taken

module _ (books : Books) (n : ℕ) (parts : List Part) (old : ValuesSoFar) (keeps : KeepsValues books n parts old) where
  -- by its own books and limits
  pub own-taken : HasTaken old.books.now old.more parts old
  own-taken =
      let by_books : HasTaken old.books.now n parts old = subst (λ (b : Books). HasTaken b n parts old) (sym keeps.books_are) keeps.taken in
      subst (λ (m : ℕ). HasTaken old.books.now m parts old) (sym keeps.taken.more_is) by_books

  module _ {T : Type 0} (r : Result T ValueStop) (new : ValuesSoFar) (x : Part) where
    pub part-kept : new.books.now ≡ old.books.now → OnOk r (HasTaken old.books.now old.more (parts ++ x ∷ []) new) → OnOk r (KeepsValues books n (parts ++ x ∷ []) new)
    part-kept same h = grind arith

    pub part-breaks : IfErr r (StopsAtPart old.books.now old.more parts x new.lines.items) → IfErr r (StopsAtPart books n parts x new.lines.items)
    part-breaks h =
        let by_books = subst (λ (b : Books). IfErr r (StopsAtPart b old.more parts x new.lines.items)) keeps.books_are h in
        subst (λ (m : ℕ). IfErr r (StopsAtPart books m parts x new.lines.items)) keeps.taken.more_is by_books

-- ---- a page

module _ (books : Books) (n : ℕ) (now : ValuesSoFar) where
  abbrev pub Took : List Part → Type 0
  Took parts = KeepsValues books n parts now

  abbrev pub Breaks : List Part → Part → ValueStop → Type 0
  Breaks parts x stop = StopsAtPart books n parts x now.lines.items stop

  abbrev Ends : ReadStop ValueStop → Result (Unit {0}) (ReadStop ValueStop)
  Ends stop = Err stop

  -- it was read to its end
  pub whole-of : (page : Option (List ℕ)) (done : Unit {0}) → ReadStates Took Breaks page (Ok done) → (text : List ℕ) × (page ≡ Some text) × (length text ≤ most_given) × TookWhole books n text now
  whole-of None done h = absurd h
  whole-of (Some page) done h = (page, refl, h.0, record { publication = h.1.publication; is = h.1.is; taken = h.1.took.taken })

  pub whole-some : (done : Unit {0}) → SomeStates Took Breaks (Ok done) → (text : List ℕ) × TookWhole books n text now
  whole-some done h = (h.0, record { publication = h.1.publication; is = h.1.is; taken = h.1.took.taken })

  unopened-states : (page : Option (List ℕ)) (f : Fetch) → ReadStates Took Breaks page (Ends (read.Unopened f)) → ValueStates books n page [] (OfFetch f)
  unopened-states page f h = grind arith

  fetch-states : (page : Option (List ℕ)) (f : Fetch) → ReadStates Took Breaks page (Ends (read.Fetch f)) → ValueStates books n page now.lines.items (OfFetch f)
  fetch-states (Some page) fetch.Failed h = Midway h.parts (record { holds = h.first; states = h.took.taken.states })
  fetch-states (Some page) fetch.TooLong h = record { too_long = h.0; parts = h.1.parts; no_more = h.1.none; states = record { holds = h.1.first; states = h.1.took.taken.states } }
  fetch-states _ _ h = absurd h

  part-states : (page : Option (List ℕ)) (end : ValueEnd) → ReadStates Took Breaks page (Ends (read.Part (At end))) → ValueStates books n page now.lines.items end
  part-states (Some page) (Invalid run number) h = AtPart h.parts h.part h.there h.broke.0 h.broke.1
  part-states page end h = grind arith

  module _ {E : Type 0} where
    -- where pages are reported
    pub stop-states : (page : Option (List ℕ)) (stop : ReadStop ValueStop) (r : Result Valued E) → StopsValues stop now.lines.items r → ReadStates Took Breaks page (Ends stop)
        → IfOk r (λ v. ValueStates books n page v.text v.end)
    stop-states page stop (Err e) is h = tt
    stop-states page (read.Unopened f) (Ok v) is h = rw (is.0, is.1) (unopened-states page f h)
    stop-states page (read.Fetch f) (Ok v) is h = rw (is.0, is.1) (fetch-states page f h)
    stop-states (Some page) (read.Text f) (Ok v) is h =
        rw (is.0, is.1) (record { reported = h.0; parts = h.1.parts; no_more = h.1.none; states = record { holds = h.1.first; states = h.1.took.taken.states } })
    stop-states page (read.Part (At end)) (Ok v) is h = rw (is.0, is.1) (part-states page end h)
    stop-states page stop r is h = grind arith

    -- and on any shelf
    pub stop-lines : (stop : ReadStop ValueStop) (r : Result Valued E) → StopsValues stop now.lines.items r → SomeStates Took Breaks (Ends stop) → IfOk r (λ v. LinesReport books n v.text v.end)
    stop-lines stop r is h = grind arith

-- what is said by the books and the limits with which it began
module _ (first : ValuesSoFar) (books : Books) (n : ℕ) (now : ValuesSoFar) (books_are : first.books.now ≡ books) (more_is : first.more ≡ n) where
  pub reads-as : (page : Option (List ℕ)) (r : Result (Unit {0}) (ReadStop ValueStop)) → ReadStates (Took first.books.now first.more now) (Breaks first.books.now first.more now) page r
      → ReadStates (Took books n now) (Breaks books n now) page r
  reads-as page r h =
      let by_books : ReadStates (Took books first.more now) (Breaks books first.more now) page r =
      subst (λ (b : Books). ReadStates (Took b first.more now) (Breaks b first.more now) page r) books_are h in
      subst (λ (m : ℕ). ReadStates (Took books m now) (Breaks books m now) page r) more_is by_books

  pub some-as : (r : Result (Unit {0}) (ReadStop ValueStop)) → SomeStates (Took first.books.now first.more now) (Breaks first.books.now first.more now) r
      → SomeStates (Took books n now) (Breaks books n now) r
  some-as r h =
      let by_books : SomeStates (Took books first.more now) (Breaks books first.more now) r = subst (λ (b : Books). SomeStates (Took b first.more now) (Breaks b first.more now) r) books_are h in
      subst (λ (m : ℕ). SomeStates (Took books m now) (Breaks books m now) r) more_is by_books

-- it ends by no fault of the shelf
pub no-page-fault : {E : Type 0} (g : Fetch) (r : Result Valued E) → IfOk r (λ v. IsPageEnd g v.end → ⊥) → IsPageFault g r → ⊥
no-page-fault g (Ok v) h w = h w
no-page-fault g (Err why) h w = w
