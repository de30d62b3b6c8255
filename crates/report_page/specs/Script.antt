-- What a page does.
use Rattle.std.specs.Prelude.{ℕ, List, codes}

-- the script of a page: a click on a head sorts the table, and a part of a name and a state choose among its rows
unfoldable pub script_text : List ℕ
script_text = codes "(function(){\n'use strict';\nfunction id(name){return document.getElementById(name)}\nvar table=id('nodes'),body=table.tBodies[0],rows=Array.prototype.slice.call(body.rows),heads=table.tHead.rows[0].cells,last=-1,up=true,i;\nfunction field(row,column){return row.cells[column].textContent}\nfunction order(column){return function(a,b){\nvar x=field(a,column),y=field(b,column),m,n,by;\nif(column>1&&column<6){m=parseFloat(x);n=parseFloat(y);if(isNaN(m)||isNaN(n)){return isNaN(m)-isNaN(n)}by=m-n}else{by=x<y?-1:x>y?1:0}\nreturn up?by:-by}}\nfunction sort(column){\nup=last===column?!up:true;last=column;rows.sort(order(column));\nrows.forEach(function(row){body.appendChild(row)});\nfor(i=0;i<heads.length;i++){heads[i].setAttribute('aria-sort',i!==column?'none':up?'ascending':'descending')}}\nfunction choose(){\nvar part=id('part').value.toLowerCase(),state=id('which').value,count=0;\nrows.forEach(function(row){\nrow.hidden=field(row,0).toLowerCase().indexOf(part)<0||state!==''&&field(row,1)!==state;\nif(!row.hidden){count++}});\nid('shown').textContent=count+' of '+rows.length+' nodes'}\nfunction listen(column){\nvar head=heads[column];head.tabIndex=0;\nhead.addEventListener('click',function(){sort(column)});\nhead.addEventListener('keydown',function(event){if(event.key==='Enter'){sort(column)}})}\nfor(i=0;i<heads.length;i++){listen(i)}\n['DONE','ERROR','PRERUN','SUBMITTED','POSTRUN','READY','NOT_READY'].forEach(function(state){\nif(rows.some(function(row){return field(row,1)===state})){id('which').add(new Option(state,state))}});\nid('part').addEventListener('input',choose);\nid('which').addEventListener('change',choose);\nid('find').hidden=false;\nchoose()})();\n"
