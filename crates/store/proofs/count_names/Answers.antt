use Rattle.order.proofs.Entries.{lookup-put_same, lookup-put_other, lookup-remove_same, lookup-remove_other, put-sorted, remove-sorted, same_names, length-put, length-remove}
use Rattle.keys.specs.KeyOrder.{key_order}
use Rattle.store.proofs.count_names.Goals as goal

pub returns : goal.returns
returns g c = record {
  count = c.len.ensures;
  same = same_names key_order;
  put = record {
    here = λ ns k v. lookup-put_same key_order k v ns;
    elsewhere = λ ns k v q n. lookup-put_other key_order q k v ns n;
    count = λ ns k v s. length-put key_order k v ns s;
    order = λ ns k v s. put-sorted key_order k v ns s;
  };
  remove = record {
    here = λ ns k s. lookup-remove_same key_order k ns s;
    elsewhere = λ ns k q n. lookup-remove_other key_order q k ns n;
    count = λ ns k s f. length-remove key_order k ns s f;
    order = λ ns k s. remove-sorted key_order k ns s;
  };
}
