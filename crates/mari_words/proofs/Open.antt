-- One more word where no value is waited for.
use Rattle.std.proofs.Common.{◌≡◌, ◌∙◌, ◌≤◌, true, false, List, [], ◌∷◌, length, Option, Some, None, option_map, bytes_eq, codes, refl, sym, ap, subst}
use Rattle.clap.specs.Lexer.{long_of, short_of}
use Rattle.clap.specs.Walk.{Row, arg_by_long, settled_rows, used, walked}
use Rattle.mari_words.specs.Seen.{Choice, Seen, Text, after, choice_of, option_in, with_plain_word}
use Rattle.mari_words.specs.Seen.{Choice as choice}
use Rattle.mari_words.specs.Words.{Verb, form_of}
use Rattle.mari_words.proofs.Keys.{filled_not, held, id, key_of, rule, rules, use_fails, use_passes}
use Rattle.mari_words.proofs.Keys.Key.{Nodes, Workers}
use Rattle.mari_words.proofs.Sorts.{Sort}
use Rattle.mari_words.proofs.Sorts.Sort.{dashes, named, plain, short}
use Rattle.mari_words.proofs.Steps.{Follows, State, Turns, at, by_long, known_choice, none_both, none_first, none_second, short_bad, values}
use Rattle.mari_words.proofs.Turns.{Pending, Puts, mk, puts, state_now, with_nodes, with_workers}

module _ (verb : Verb) (rows : List Row) (pending : Pending) (words : List Text) (word : Text) (few : length words ≤ (form_of verb).words) where
  as_turn : (nodes workers : Option Text) (o : Option Seen) → after (form_of verb) (mk words nodes workers None false) word ≡ o
      → Turns verb (at rows pending (mk words nodes workers None false)) word o
      → Turns verb (at rows pending (mk words nodes workers None false)) word (after (form_of verb) (mk words nodes workers None false) word)
  as_turn nodes workers o e = subst (Turns verb (at rows pending (mk words nodes workers None false)) word) (sym e)

  -- after `--`
  pub ended : (nodes workers : Option Text) → State verb rows pending (mk words nodes workers None true) None
      → Turns verb (at rows pending (mk words nodes workers None true)) word (after (form_of verb) (mk words nodes workers None true) word)
  unfolding walked
  ended nodes workers st = go (with_plain_word (form_of verb) (mk words nodes workers None true) word) (puts verb rows pending words nodes workers true word few st)
    where
      go : (o : Option _) → Puts verb rows pending (mk words nodes workers None true) word o → Turns verb (at rows pending (mk words nodes workers None true)) word o
      go None p = λ rest sp turn walk end. p turn
      go (Some t) p = p

  -- a word that is no flag
  unflagged : (nodes workers : Option Text) → State verb rows pending (mk words nodes workers None false) None
      → bytes_eq word (codes "--") ≡ false → long_of word ≡ None → short_of word ≡ None
      → Turns verb (at rows pending (mk words nodes workers None false)) word (with_plain_word (form_of verb) (mk words nodes workers None false) word)
  unfolding walked
  unflagged nodes workers st e l s = go (with_plain_word (form_of verb) (mk words nodes workers None false) word) (puts verb rows pending words nodes workers false word few st)
    where
      go : (o : Option _) → Puts verb rows pending (mk words nodes workers None false) word o → Turns verb (at rows pending (mk words nodes workers None false)) word o
      go None p = λ rest sp turn walk end. p (rw (e, l, s) at turn)
      go (Some t) p = (rw (e, l, s) p.0, subst (λ w. Follows verb w t) (rw (e, l, s) refl) p.1)

  module _ (name : Text) (e : bytes_eq word (codes "--") ≡ false) where
    -- no option has this name
    unknown : (value : Option Text) (nodes workers : Option Text) → long_of word ≡ Some (name, value) → choice_of (form_of verb) name ≡ None
        → Turns verb (at rows pending (mk words nodes workers None false)) word None
    unknown value nodes workers l c rest sp turn walk end =
        let long : arg_by_long (rules verb) name ≡ None = by_long verb name ∙ ap (option_map (λ ch. rule (key_of ch))) c in
        filled_not turn (rw (e, l, long) refl)

    -- an option's name
    option_name : (ch : Choice) (nodes workers : Option Text) → State verb rows pending (mk words nodes workers None false) None
        → long_of word ≡ Some (name, None) → choice_of (form_of verb) name ≡ Some ch
        → Turns verb (at rows pending (mk words nodes workers None false)) word (Some (mk words nodes workers (Some ch) false))
    unfolding walked
    option_name ch nodes workers st l c = go ch c
      where
        go : (x : Choice) → choice_of (form_of verb) name ≡ Some x → Turns verb (at rows pending (mk words nodes workers None false)) word (Some (mk words nodes workers (Some x) false))
        go choice.Nodes c =
            let long : arg_by_long (rules verb) name ≡ Some (rule Nodes) = by_long verb name ∙ ap (option_map (λ ch. rule (key_of ch))) c in (
              rw (e, l, long) (none_both _ _ st.0 refl),
              record {
                rows = settled_rows (rules verb) pending rows;
                pending = Some (id Nodes, []);
                is = rw (e, l, long) refl;
                few = few;
                state = (refl, refl, known_choice verb name choice.Nodes c, st.1);
              },
            )
        go choice.Workers c =
            let long : arg_by_long (rules verb) name ≡ Some (rule Workers) = by_long verb name ∙ ap (option_map (λ ch. rule (key_of ch))) c in (
              rw (e, l, long) (none_both _ _ st.0 refl),
              record {
                rows = settled_rows (rules verb) pending rows;
                pending = Some (id Workers, []);
                is = rw (e, l, long) refl;
                few = few;
                state = (refl, refl, known_choice verb name choice.Workers c, st.1);
              },
            )

    -- an option with its value, the first time
    nodes_first : (text : Text) (workers : Option Text) → State verb rows pending (mk words None workers None false) None
        → long_of word ≡ Some (name, Some text) → choice_of (form_of verb) name ≡ Some choice.Nodes
        → Turns verb (at rows pending (mk words None workers None false)) word (Some (mk words (Some text) workers None false))
    unfolding walked
    nodes_first text workers st l c =
        let long : arg_by_long (rules verb) name ≡ Some (rule Nodes) = by_long verb name ∙ ap (option_map (λ ch. rule (key_of ch))) c in (
          rw (e, l, long) (none_both _ _ (none_both _ _ st.0 (use_passes Nodes text (settled_rows (rules verb) pending rows) (values (mk words None workers None false)) st.1 refl)) refl),
          record {
            rows = used (rule Nodes) (text ∷ []) (settled_rows (rules verb) pending rows);
            pending = None;
            is = rw (e, l, long) refl;
            few = few;
            state = state_now verb Nodes (settled_rows (rules verb) pending rows) text (values (mk words None workers None false)) (mk words (Some text) workers None false) st.1 refl
                (with_nodes text words None workers false);
          },
        )

    workers_first : (text : Text) (nodes : Option Text) → State verb rows pending (mk words nodes None None false) None
        → long_of word ≡ Some (name, Some text) → choice_of (form_of verb) name ≡ Some choice.Workers
        → Turns verb (at rows pending (mk words nodes None None false)) word (Some (mk words nodes (Some text) None false))
    unfolding walked
    workers_first text nodes st l c =
        let long : arg_by_long (rules verb) name ≡ Some (rule Workers) = by_long verb name ∙ ap (option_map (λ ch. rule (key_of ch))) c in (
          rw (e, l, long) (none_both _ _ (none_both _ _ st.0 (use_passes Workers text (settled_rows (rules verb) pending rows) (values (mk words nodes None None false)) st.1 refl)) refl),
          record {
            rows = used (rule Workers) (text ∷ []) (settled_rows (rules verb) pending rows);
            pending = None;
            is = rw (e, l, long) refl;
            few = few;
            state = state_now verb Workers (settled_rows (rules verb) pending rows) text (values (mk words nodes None None false)) (mk words nodes (Some text) None false) st.1 refl
                (with_workers text words nodes None false);
          },
        )

    -- and once more
    option_again : (ch : Choice) (text old : Text) (nodes workers : Option Text) → State verb rows pending (mk words nodes workers None false) None
        → values (mk words nodes workers None false) (key_of ch) ≡ Some old
        → long_of word ≡ Some (name, Some text) → choice_of (form_of verb) name ≡ Some ch
        → Turns verb (at rows pending (mk words nodes workers None false)) word None
    option_again ch text old nodes workers st v l c rest sp turn walk end = go ch v c
      where
        go : (x : Choice) → values (mk words nodes workers None false) (key_of x) ≡ Some old → choice_of (form_of verb) name ≡ Some x → ⊥
        go choice.Nodes v c =
            let long : arg_by_long (rules verb) name ≡ Some (rule Nodes) = by_long verb name ∙ ap (option_map (λ ch. rule (key_of ch))) c in
            use_fails Nodes text old (settled_rows (rules verb) pending rows) (values (mk words nodes workers None false)) st.1 v (none_second _ _ (none_first _ _ (rw (e, l, long) at turn)))
        go choice.Workers v c =
            let long : arg_by_long (rules verb) name ≡ Some (rule Workers) = by_long verb name ∙ ap (option_map (λ ch. rule (key_of ch))) c in
            use_fails Workers text old (settled_rows (rules verb) pending rows) (values (mk words nodes workers None false)) st.1 v (none_second _ _ (none_first _ _ (rw (e, l, long) at turn)))

  -- a word with two dashes and a name
  flagged : (name : Text) (value nodes workers : Option Text) → State verb rows pending (mk words nodes workers None false) None
      → bytes_eq word (codes "--") ≡ false → long_of word ≡ Some (name, value)
      → Turns verb (at rows pending (mk words nodes workers None false)) word (after (form_of verb) (mk words nodes workers None false) word)
  flagged name value nodes workers st e l = go (choice_of (form_of verb) name) value nodes workers refl l st
    where
      option : (v : Option Text) → long_of word ≡ Some (name, v) → option_in word ≡ Some (name, v)
      option v h = h

      go : (o : Option Choice) (v n w : Option Text) → choice_of (form_of verb) name ≡ o → long_of word ≡ Some (name, v) → State verb rows pending (mk words n w None false) None
          → Turns verb (at rows pending (mk words n w None false)) word (after (form_of verb) (mk words n w None false) word)
      go None v n w c l st =
          as_turn n w None (rw (e, option v l, c) refl) (unknown name e v n w l c)
      go (Some choice.Nodes) None n w c l st =
          as_turn n w (Some (mk words n w (Some choice.Nodes) false)) (rw (e, option None l, c) refl) (option_name name e choice.Nodes n w st l c)
      go (Some choice.Workers) None n w c l st =
          as_turn n w (Some (mk words n w (Some choice.Workers) false)) (rw (e, option None l, c) refl) (option_name name e choice.Workers n w st l c)
      go (Some choice.Nodes) (Some text) None w c l st =
          as_turn None w (Some (mk words (Some text) w None false)) (rw (e, option (Some text) l, c) refl) (nodes_first name e text w st l c)
      go (Some choice.Nodes) (Some text) (Some old) w c l st =
          as_turn (Some old) w None (rw (e, option (Some text) l, c) refl) (option_again name e choice.Nodes text old (Some old) w st refl l c)
      go (Some choice.Workers) (Some text) n None c l st =
          as_turn n None (Some (mk words n (Some text) None false)) (rw (e, option (Some text) l, c) refl) (workers_first name e text n st l c)
      go (Some choice.Workers) (Some text) n (Some old) c l st =
          as_turn n (Some old) None (rw (e, option (Some text) l, c) refl) (option_again name e choice.Workers text old n (Some old) st refl l c)

  pub opened : (nodes workers : Option Text) → State verb rows pending (mk words nodes workers None false) None → Sort word
      → Turns verb (at rows pending (mk words nodes workers None false)) word (after (form_of verb) (mk words nodes workers None false) word)
  unfolding walked
  opened nodes workers st (dashes e d) =
      as_turn nodes workers (Some (mk words nodes workers None true)) (rw e refl)
      (rw e refl, record { rows = rows; pending = pending; is = rw e refl; few = few; state = st })
  opened nodes workers st (named name value e l d) = flagged name value nodes workers st e l
  opened nodes workers st (short y c ys cs e l s ch d) =
      let none : option_in word ≡ None = l in
      as_turn nodes workers None (rw (e, none, d) refl)
      (λ rest sp turn walk end. short_bad verb (held rows pending) y c ys cs refl ch (none_first _ _ (rw (e, l, s) at turn)))
  opened nodes workers st (plain e l s d) =
      let none : option_in word ≡ None = l in
      as_turn nodes workers (with_plain_word (form_of verb) (mk words nodes workers None false) word) (rw (e, none, d) refl) (unflagged nodes workers st e l s)
