-- One more word where an option's value is waited for.
use Rattle.std.proofs.Common.{◌≡◌, ◌≤◌, suc, true, false, List, [], ◌∷◌, length, Option, Some, None, bytes_eq, codes, refl, sym, subst}
use Rattle.clap.specs.Lexer.{long_of, short_of}
use Rattle.clap.specs.Walk.{Row, walked}
use Rattle.clap.specs.Walk.{Waiting as waits}
use Rattle.clap.specs.Faults.{settle_fault}
use Rattle.mari_words.specs.Seen.{Choice, Seen, Text, after, with_value}
use Rattle.mari_words.specs.Seen.{Choice as choice}
use Rattle.mari_words.specs.Words.{Verb, form_of}
use Rattle.mari_words.proofs.Keys.{Finds, held, id, key_of, rules, use_fails}
use Rattle.mari_words.proofs.Keys.Key.{Nodes, Workers}
use Rattle.mari_words.proofs.Sorts.{Sort}
use Rattle.mari_words.proofs.Sorts.Sort.{dashes, named, plain, short}
use Rattle.mari_words.proofs.Steps.{Fails, Known, Turns, at, doomed, doomed_ended, long_bad, none_first, short_bad, values, walk_at}
use Rattle.mari_words.proofs.Turns.{mk, no_value, pends_not, state_then, with_nodes, with_workers}

module _ (verb : Verb) (rows : List Row) (words : List Text) (word : Text) (few : length words ≤ (form_of verb).words) where
  as_turn : (ch : Choice) (nodes workers : Option Text) (o : Option Seen) → after (form_of verb) (mk words nodes workers (Some ch) false) word ≡ o
      → Turns verb (at rows (Some (id (key_of ch), [])) (mk words nodes workers (Some ch) false)) word o
      → Turns verb (at rows (Some (id (key_of ch), [])) (mk words nodes workers (Some ch) false)) word (after (form_of verb) (mk words nodes workers (Some ch) false) word)
  as_turn ch nodes workers o e = subst (Turns verb (at rows (Some (id (key_of ch), [])) (mk words nodes workers (Some ch) false)) word) (sym e)

  bad_now : (ch : Choice) → Known verb (key_of ch) → settle_fault (rules verb) false (held rows (Some (id (key_of ch), []))) ≡ [] → ⊥
  bad_now ch known = no_value verb (key_of ch) known rows

  ends_wrong : (ch : Choice) (nodes workers : Option Text) → Known verb (key_of ch) → bytes_eq word (codes "--") ≡ true
      → Turns verb (at rows (Some (id (key_of ch), [])) (mk words nodes workers (Some ch) false)) word None
  unfolding walked
  ends_wrong ch nodes workers known e rest sp turn =
      let moved : walked (rules verb) [] (at rows (Some (id (key_of ch), [])) (mk words nodes workers (Some ch) false)) word
      ≡ walk_at rows (Some (id (key_of ch), [])) (waits.option (id (key_of ch))) (suc (length words)) true = rw e refl in
      subst (λ w. Fails verb w rest) (sym moved)
      (doomed_ended verb rest rows (Some (id (key_of ch), [])) (waits.option (id (key_of ch))) (suc (length words)) (bad_now ch known))

  -- a value, the first time
  nodes_value : (workers : Option Text) → Known verb Nodes → Finds rows (values (mk words None workers (Some choice.Nodes) false))
      → bytes_eq word (codes "--") ≡ false → long_of word ≡ None → short_of word ≡ None
      → Turns verb (at rows (Some (id Nodes, [])) (mk words None workers (Some choice.Nodes) false)) word (Some (mk words (Some word) workers None false))
  unfolding walked
  nodes_value workers known f e l s = (
    rw (e, l, s) refl,
    record {
      rows = rows;
      pending = Some (id Nodes, word ∷ []);
      is = rw (e, l, s, known) refl;
      few = few;
      state = state_then verb Nodes known rows word (values (mk words None workers None false)) (mk words (Some word) workers None false) f refl (with_nodes word words None workers false);
    },
  )

  workers_value : (nodes : Option Text) → Known verb Workers → Finds rows (values (mk words nodes None (Some choice.Workers) false))
      → bytes_eq word (codes "--") ≡ false → long_of word ≡ None → short_of word ≡ None
      → Turns verb (at rows (Some (id Workers, [])) (mk words nodes None (Some choice.Workers) false)) word (Some (mk words nodes (Some word) None false))
  unfolding walked
  workers_value nodes known f e l s = (
    rw (e, l, s) refl,
    record {
      rows = rows;
      pending = Some (id Workers, word ∷ []);
      is = rw (e, l, s, known) refl;
      few = few;
      state = state_then verb Workers known rows word (values (mk words nodes None None false)) (mk words nodes (Some word) None false) f refl (with_workers word words nodes None false);
    },
  )

  -- and once more
  nodes_again : (old : Text) (workers : Option Text) → Known verb Nodes → Finds rows (values (mk words (Some old) workers (Some choice.Nodes) false))
      → bytes_eq word (codes "--") ≡ false → long_of word ≡ None → short_of word ≡ None
      → Turns verb (at rows (Some (id Nodes, [])) (mk words (Some old) workers (Some choice.Nodes) false)) word None
  unfolding walked
  nodes_again old workers known f e l s rest sp turn =
      let moved : walked (rules verb) [] (at rows (Some (id Nodes, [])) (mk words (Some old) workers (Some choice.Nodes) false)) word
      ≡ walk_at rows (Some (id Nodes, word ∷ [])) waits.idle (suc (length words)) false = rw (e, l, s, known) refl in
      subst (λ w. Fails verb w rest) (sym moved)
      (doomed verb rest rows (Some (id Nodes, word ∷ [])) (suc (length words)) sp
      (pends_not verb Nodes known rows word (use_fails Nodes word old rows (values (mk words (Some old) workers None false)) f refl)))

  workers_again : (old : Text) (nodes : Option Text) → Known verb Workers → Finds rows (values (mk words nodes (Some old) (Some choice.Workers) false))
      → bytes_eq word (codes "--") ≡ false → long_of word ≡ None → short_of word ≡ None
      → Turns verb (at rows (Some (id Workers, [])) (mk words nodes (Some old) (Some choice.Workers) false)) word None
  unfolding walked
  workers_again old nodes known f e l s rest sp turn =
      let moved : walked (rules verb) [] (at rows (Some (id Workers, [])) (mk words nodes (Some old) (Some choice.Workers) false)) word
      ≡ walk_at rows (Some (id Workers, word ∷ [])) waits.idle (suc (length words)) false = rw (e, l, s, known) refl in
      subst (λ w. Fails verb w rest) (sym moved)
      (doomed verb rest rows (Some (id Workers, word ∷ [])) (suc (length words)) sp
      (pends_not verb Workers known rows word (use_fails Workers word old rows (values (mk words nodes (Some old) None false)) f refl)))

  undashed : (ch : Choice) (nodes workers : Option Text) → Known verb (key_of ch) → Finds rows (values (mk words nodes workers (Some ch) false))
      → bytes_eq word (codes "--") ≡ false → long_of word ≡ None → short_of word ≡ None
      → Turns verb (at rows (Some (id (key_of ch), [])) (mk words nodes workers (Some ch) false)) word (with_value (mk words nodes workers (Some ch) false) ch word)
  undashed choice.Nodes None workers known f e l s = nodes_value workers known f e l s
  undashed choice.Nodes (Some old) workers known f e l s = nodes_again old workers known f e l s
  undashed choice.Workers nodes None known f e l s = workers_value nodes known f e l s
  undashed choice.Workers nodes (Some old) known f e l s = workers_again old nodes known f e l s

  pub waiting : (ch : Choice) (nodes workers : Option Text) → Known verb (key_of ch) → Finds rows (values (mk words nodes workers (Some ch) false)) → Sort word
      → Turns verb (at rows (Some (id (key_of ch), [])) (mk words nodes workers (Some ch) false)) word (after (form_of verb) (mk words nodes workers (Some ch) false) word)
  waiting ch nodes workers known f (dashes e d) =
      as_turn ch nodes workers None (rw d refl) (ends_wrong ch nodes workers known e)
  waiting ch nodes workers known f (named name value e l d) =
      as_turn ch nodes workers None (rw d refl)
      (λ rest sp turn. absurd (long_bad verb rows (Some (id (key_of ch), [])) name value (bad_now ch known) (none_first _ _ (rw (e, l) at turn))))
  waiting ch nodes workers known f (short y c ys cs e l s chs d) =
      as_turn ch nodes workers None (rw d refl)
      (λ rest sp turn. absurd (short_bad verb (held rows (Some (id (key_of ch), []))) y c ys cs refl chs (none_first _ _ (rw (e, l, s) at turn))))
  waiting ch nodes workers known f (plain e l s d) =
      as_turn ch nodes workers (with_value (mk words nodes workers (Some ch) false) ch word) (rw d refl) (undashed ch nodes workers known f e l s)
