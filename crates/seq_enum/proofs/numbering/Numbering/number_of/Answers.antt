use Rattle.std.proofs.Common.{◌≡◌, ◌≤◌, length}
use Rattle.seq_enum.specs.Alphabet.{words, alphabet, IsPlace}
use Rattle.seq_enum.proofs.Words.{IsPlace-sequences}
use Rattle.seq_enum.proofs.numbering.Numbering.number_of.Goals as goal

pub returns : goal.returns
returns c =
    let is : c.as_slice-instrs.result.now ≡ c.args.seq.now = c.as_slice-instrs.ensures.value in
    let few : length c.args.seq.now ≤ 5 = rw is at c.as_slice-instrs.ensures.few in
    let place : IsPlace c.place_of_word.result (words (alphabet c.args.self.now.registers c.args.self.now.pool.now) (length c.args.seq.now)) c.args.seq.now =
    rw is at c.place_of_word.ensures.value in
    rw (c.moved.ensures, c.count_below-before.ensures.value, c.requires.size, is)
    (IsPlace-sequences c.args.self.now.registers c.args.self.now.pool.now c.args.seq.now few c.place_of_word.result place)
