-- What a folder's pages give for quarters is one thing: a joint market, a first refusal, or a first page that can't be had.
use Rattle.std.proofs.Common.{◌≡◌, ◌∙◌, ℕ, List, Some, None, Result, Ok, Err, ap, sym}
use Rattle.mari_units.specs.declared.faults.Refusal.{Refusal}
use Rattle.mari_io.specs.Outside.{Pages}
use Rattle.mari_rows.specs.declared.faults.BookFault.{BookFault}
use Rattle.mari_rows.specs.declared.faults.BookFault.TheVariants.{At}
use Rattle.mari_remain.specs.declared.books.Books.{Books}
use Rattle.mari_day.specs.Files.{Gap, gap_of}
use Rattle.mari_day.specs.Reading.{HasBooks}
use Rattle.mari_day.specs.declared.files.TheConstants.{BLOCKS}
use Rattle.mari_day.proofs.Facts.{agree}
use Rattle.mari_day.proofs.Facts.Fact.{Gives, Refuses, Lacks}
use Rattle.mari_blocks.specs.Joint.{joint_in}
use Rattle.mari_blocks.specs.declared.blocks.BlockBook.{BlockBook}
use Rattle.mari_blocks.specs.declared.joint.Joint.{Joint}
use Rattle.mari_quarters.specs.Quarters.{HasBlocks, HasPage, HasQuartersGap, HasQuartersRefusal, blocks_in, blocks_page}
use Rattle.mari_quarters.specs.Quarters.HasQuartersRefusal.{OfFiles, OfBlocks, OfMarket}
use Rattle.mari_quarters.specs.Quarters.HasQuartersGap.{OfFiles as LacksFile, OfBlocks as LacksBlocks}

abbrev refusal_at : (line number : ℕ) → Refusal
refusal_at line number = record { file = BLOCKS; line = line; number = number }

module _ (pages : Pages) (folder : List ℕ) where
  one_books : (a b : Books) → HasBooks pages folder a → HasBooks pages folder b → a ≡ b
  one_books a b h k = agree pages folder (Gives a) (Gives b) h k

  -- a page that is there can't be out of reach
  held_page : (books : Books) (page : List ℕ) (gap : Gap) → HasPage pages folder books page → gap_of (blocks_page pages folder) ≡ Some gap → ⊥
  held_page books page gap h e = let none : None ≡ Some gap = sym h.short ∙ sym (ap gap_of h.held) ∙ e in cc

  module _ (first last : ℕ) where
    one_read : (a b : Books) (p q : List ℕ) (x y : Result BlockBook BookFault) → HasPage pages folder a p
        → HasPage pages folder b q → blocks_in a first last p ≡ x → blocks_in b first last q ≡ y → x ≡ y
    one_read a b p q x y h k e f =
        let books : a ≡ b = one_books a b h.gives k.gives in
        let page : p ≡ q = let same : Some p ≡ Some q = sym h.held ∙ k.held in cc in
        sym e ∙ ap (λ (o : Books). blocks_in o first last p) books ∙ ap (blocks_in b first last) page ∙ f

    one_made : (a b : Books) (s t : BlockBook) (x y : Result Joint Refusal) → HasBlocks pages folder first last a s
        → HasBlocks pages folder first last b t → joint_in a s first last ≡ x → joint_in b t first last ≡ y → x ≡ y
    one_made a b s t x y h k e f =
        let books : a ≡ b = one_books a b h.has.gives k.has.gives in
        let read : Ok s ≡ Ok t = one_read a b h.page k.page (Ok s) (Ok t) h.has k.has h.read k.read in
        let blocks : s ≡ t = cc in
        sym e ∙ ap (λ (o : Books). joint_in o s first last) books ∙ ap (λ (o : BlockBook). joint_in b o first last) blocks ∙ f

    -- two joint markets are one
    pub one_joint : (a b : Books) (s t : BlockBook) (j k : Joint) → HasBlocks pages folder first last a s
        → HasBlocks pages folder first last b t → joint_in a s first last ≡ Ok j → joint_in b t first last ≡ Ok k
        → j ≡ k
    one_joint a b s t j k h l e f = let same : Ok j ≡ Ok k = one_made a b s t (Ok j) (Ok k) h l e f in cc

    -- two refusals are one
    pub one_refusal : (r s : Refusal) → HasQuartersRefusal pages folder first last r → HasQuartersRefusal pages folder first last s → r ≡ s
    one_refusal r s (OfFiles h) (OfFiles k) = agree pages folder (Refuses r) (Refuses s) h k
    one_refusal r s (OfFiles h) (OfBlocks b page line number k e is) = absurd (agree pages folder (Refuses r) (Gives b) h k.gives)
    one_refusal r s (OfFiles h) (OfMarket b t k e) = absurd (agree pages folder (Refuses r) (Gives b) h k.has.gives)
    one_refusal r s (OfBlocks b page line number k e is) (OfFiles h) = absurd (agree pages folder (Gives b) (Refuses s) k.gives h)
    one_refusal r s (OfBlocks b p line number h e is) (OfBlocks c q other n k f are) =
        let same : Err (At line number) ≡ Err (At other n) = one_read b c p q (Err (At line number)) (Err (At other n)) h k e f in
        let lines : line ≡ other = cc in
        let numbers : number ≡ n = cc in
        is ∙ ap (λ (x : ℕ). refusal_at x number) lines ∙ ap (refusal_at other) numbers ∙ sym are
    one_refusal r s (OfBlocks b p line number h e is) (OfMarket c t k f) =
        let same : Err (At line number) ≡ Ok t = one_read b c p k.page (Err (At line number)) (Ok t) h k.has e k.read in absurd (cc)
    one_refusal r s (OfMarket b t k e) (OfFiles h) = absurd (agree pages folder (Gives b) (Refuses s) k.has.gives h)
    one_refusal r s (OfMarket b t k e) (OfBlocks c q line number h f is) =
        let same : Ok t ≡ Err (At line number) = one_read b c k.page q (Ok t) (Err (At line number)) k.has h k.read f in absurd (cc)
    one_refusal r s (OfMarket b t k e) (OfMarket c u h f) = let same : Err r ≡ Err s = one_made b c t u (Err r) (Err s) k h e f in cc

    -- two pages that can't be had are so for one reason
    pub one_gap : (n k : ℕ) (g h : Gap) → HasQuartersGap pages folder n g → HasQuartersGap pages folder k h → g ≡ h
    one_gap n k g h (LacksFile a) (LacksFile b) = agree pages folder (Lacks n g) (Lacks k h) a b
    one_gap n k g h (LacksFile a) (LacksBlocks b has e is) = absurd (agree pages folder (Lacks n g) (Gives b) a has)
    one_gap n k g h (LacksBlocks b has e is) (LacksFile a) = absurd (agree pages folder (Gives b) (Lacks k h) has a)
    one_gap n k g h (LacksBlocks b has e is) (LacksBlocks c more f are) = let same : Some g ≡ Some h = sym e ∙ f in cc

    -- where a file is refused, all pages are had
    pub refused_held : (r : Refusal) (n : ℕ) (g : Gap) → HasQuartersRefusal pages folder first last r → HasQuartersGap pages folder n g → ⊥
    refused_held r n g (OfFiles h) (LacksFile k) = agree pages folder (Refuses r) (Lacks n g) h k
    refused_held r n g (OfFiles h) (LacksBlocks b has e is) = agree pages folder (Refuses r) (Gives b) h has
    refused_held r n g (OfBlocks b page line number h e is) (LacksFile k) = agree pages folder (Gives b) (Lacks n g) h.gives k
    refused_held r n g (OfBlocks b page line number h e is) (LacksBlocks c has f are) = held_page b page g h f
    refused_held r n g (OfMarket b t h e) (LacksFile k) = agree pages folder (Gives b) (Lacks n g) h.has.gives k
    refused_held r n g (OfMarket b t h e) (LacksBlocks c has f are) = held_page b h.page g h.has f

    -- where there is a joint market, nothing is refused, and all pages are had
    pub made_accepted : (b : Books) (t : BlockBook) (j : Joint) (r : Refusal) → HasBlocks pages folder first last b t
        → joint_in b t first last ≡ Ok j → HasQuartersRefusal pages folder first last r → ⊥
    made_accepted b t j r h e (OfFiles k) = agree pages folder (Gives b) (Refuses r) h.has.gives k
    made_accepted b t j r h e (OfBlocks c page line number k f is) =
        let same : Ok t ≡ Err (At line number) = one_read b c h.page page (Ok t) (Err (At line number)) h.has k h.read f in cc
    made_accepted b t j r h e (OfMarket c u k f) = let same : Ok j ≡ Err r = one_made b c t u (Ok j) (Err r) h k e f in cc

    pub made_held : (b : Books) (t : BlockBook) (n : ℕ) (g : Gap) → HasBlocks pages folder first last b t → HasQuartersGap pages folder n g → ⊥
    made_held b t n g h (LacksFile k) = agree pages folder (Gives b) (Lacks n g) h.has.gives k
    made_held b t n g h (LacksBlocks c has e is) = held_page b h.page g h.has e
